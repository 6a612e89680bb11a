-- The columns of a table are read as they were written.
use Rattle.std.specs.Prelude.{Option}
use Rattle.std.specs.List.{slice_range}
use Rattle.std.proofs.Common.{◌≡◌, ℕ, suc, Bool, true, false, List, [], ◌∷◌, ◌++◌, drop, refl, ap, ◌∙◌, append_assoc}
use Rattle.hy_token.specs.declared.Keyword.{Keyword}
use Rattle.hy_token.specs.declared.Keyword.TheVariants as keyword
use Rattle.hy_token.specs.declared.Token.TheVariants as token
use Rattle.hy_token.specs.Keyword.{word_spelling}
use Rattle.hy_value.specs.declared.Kind.{Kind}
use Rattle.hy_value.specs.declared.Kind.TheVariants as kinds
use Rattle.hy_ast.specs.declared.ColumnDef.{ColumnDef}
use Rattle.hy_parse.specs.Grammar.{Mark, name, word, optional, column_def}
use Rattle.hy_parse.specs.Grammar as grammar
use Rattle.hy_schema.specs.declared.Column.{Column}
use Rattle.hy_dump.specs.Dump.{comma_before, kind_word, is_key, key_mark, column_text, columns_text}
use Rattle.hy_dump.specs.Writable.{IsName}
use Rattle.hy_dump.proofs.Tokens.{space, gap_text, Stop, blank, stop_byte, stands, keyword_first, name_first}
use Rattle.hy_dump.proofs.Writing.{Written, written_both, any_written, at_written}
use Rattle.hy_dump.proofs.Lists.{listed, EachRead}

-- a column of a tree says what a column is, and whether it is the key
pub record IsColumn (bytes : List ℕ) (marked : Bool) (column : Column) (def : ColumnDef) : Type 0 where
  pub name : slice_range bytes def.name.start def.name.end ≡ column.name
  pub kind : def.kind ≡ column.kind
  pub key : def.key ≡ marked

kind_text : (kind : Kind) → kind_word kind ≡ 32 ∷ word_spelling (grammar.kind kind)
kind_text kinds.Int = refl
kind_text kinds.Str = refl

-- the type and the key of a column
record Typed (bytes : List ℕ) (at : ℕ) (kind : Kind) (key : Bool) (rest : List ℕ) : Type 0 where
  end : ℕ
  written : Written bytes at (word (grammar.kind kind) ∷ optional key (word keyword.Primary ∷ word keyword.Key ∷ [])) end
  behind : drop end bytes ≡ rest

typed : (bytes : List ℕ) (at : ℕ) (kind : Kind) (key : Bool) (stop : Stop) (rest : List ℕ)
    → drop at bytes ≡ 32 ∷ (word_spelling (grammar.kind kind) ++ (key_mark key ++ stop_byte stop ∷ rest))
    → Typed bytes at kind key (stop_byte stop ∷ rest)
typed bytes at kind false stop rest here =
    let k : Keyword = grammar.kind kind in
    let is = stands (token.Reserved k) bytes at space (word_spelling k) (stop_byte stop ∷ rest) here (keyword_first k rest stop) in
    record { end = is.span.end; written = any_written bytes at (token.Reserved k) (word_spelling k) (stop_byte stop ∷ rest) is tt; behind = is.behind }
typed bytes at kind true stop rest here =
    let k : Keyword = grammar.kind kind in
    let last : List ℕ = stop_byte stop ∷ rest in
    let from_key : List ℕ = 32 ∷ (word_spelling keyword.Key ++ last) in
    let from_primary : List ℕ = word_spelling keyword.Primary ++ from_key in
    let is = stands (token.Reserved k) bytes at space (word_spelling k) (32 ∷ from_primary) here (keyword_first k from_primary blank) in
    let primary = stands (token.Reserved keyword.Primary) bytes is.span.end space (word_spelling keyword.Primary) from_key is.behind
    (keyword_first keyword.Primary (word_spelling keyword.Key ++ last) blank) in
    let key = stands (token.Reserved keyword.Key) bytes primary.span.end space (word_spelling keyword.Key) last primary.behind (keyword_first keyword.Key rest stop) in
    record {
      end = key.span.end;
      written =
          written_both bytes at is.span.end key.span.end (word k ∷ []) (word keyword.Primary ∷ word keyword.Key ∷ [])
          (any_written bytes at (token.Reserved k) (word_spelling k) (32 ∷ from_primary) is tt)
          (written_both bytes is.span.end primary.span.end key.span.end (word keyword.Primary ∷ []) (word keyword.Key ∷ [])
          (any_written bytes is.span.end (token.Reserved keyword.Primary) (word_spelling keyword.Primary) from_key primary tt)
          (any_written bytes primary.span.end (token.Reserved keyword.Key) (word_spelling keyword.Key) last key tt));
      behind = key.behind;
    }

-- the text of the column of a number
abbrev pub column_item : Option ℕ → ℕ → Column → List ℕ
column_item key number column = column_text column (is_key key number)

pub column_reads : (bytes : List ℕ) (key : Option ℕ)
    → EachRead Column ColumnDef column_def (column_item key) bytes (λ column. IsName column.name) (λ number. IsColumn bytes (is_key key number))
column_reads bytes key number column at gap stop rest is_name here =
    let is : Bool = is_key key number in
    let last : List ℕ = stop_byte stop ∷ rest in
    let k : Keyword = grammar.kind column.kind in
    let from_kind : List ℕ = word_spelling k ++ (key_mark is ++ last) in
    let split : (column.name ++ kind_word column.kind ++ key_mark is) ++ last ≡ column.name ++ 32 ∷ from_kind =
    append_assoc (column.name ++ kind_word column.kind) (key_mark is) last
    ∙ (append_assoc column.name (kind_word column.kind) (key_mark is ++ last)
    ∙ ap (λ (kind : List ℕ). column.name ++ (kind ++ (key_mark is ++ last))) (kind_text column.kind)) in
    let named = stands token.Name bytes at gap column.name (32 ∷ from_kind) (here ∙ ap (λ (back : List ℕ). gap_text gap ++ back) split)
    (name_first column.name from_kind blank is_name) in
    let kinded = typed bytes named.span.end column.kind is stop rest named.behind in
    record {
      tree = record { name = named.span; kind = column.kind; key = is };
      end = kinded.end;
      written =
          written_both bytes at named.span.end kinded.end (name named.span ∷ [])
          (word k ∷ optional is (word keyword.Primary ∷ word keyword.Key ∷ []))
          (at_written bytes at token.Name column.name (32 ∷ from_kind) named tt) kinded.written;
      behind = kinded.behind;
      is = record { name = named.text; kind = refl; key = refl };
    }

-- columns are items with commas between
pub columns_listed : (key : Option ℕ) (number : ℕ) (columns : List Column) → columns_text key number columns ≡ listed (column_item key) number columns
columns_listed key number [] = refl
columns_listed key number (column ∷ columns) = ap (λ (back : List ℕ). comma_before number ++ column_item key number column ++ back) (columns_listed key (suc number) columns)
