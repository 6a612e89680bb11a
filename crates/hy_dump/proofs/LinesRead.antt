-- The lines that make a table and give it its rows are parsed as statements.
use Rattle.std.specs.Prelude.{◌*◌, codes, Option}
use Rattle.std.specs.List.{slice_range, AllByRecursion}
use Rattle.std.proofs.Common.{◌≡◌, ℕ, suc, ◌+◌, ◌<◌, ◌≤◌, Bool, true, false, List, [], ◌∷◌, ◌++◌, length, drop, Some, None, Ok, refl, ap, ◌∙◌, append_assoc, arith}
use Rattle.std.proofs.lemmas.List.{length-append}
use Rattle.hy_token.specs.declared.Keyword.TheVariants as keyword
use Rattle.hy_token.specs.declared.Sign.TheVariants as sign
use Rattle.hy_token.specs.declared.Span.{Span}
use Rattle.hy_token.specs.declared.Token.TheVariants as token
use Rattle.hy_token.specs.Keyword.{word_spelling}
use Rattle.hy_token.specs.Token.{token_at}
use Rattle.hy_value.specs.declared.Value.{Value}
use Rattle.hy_ast.specs.declared.ColumnDef.{ColumnDef}
use Rattle.hy_ast.specs.declared.Literal.{Literal}
use Rattle.hy_ast.specs.declared.Literal.TheVariants as literals
use Rattle.hy_ast.specs.Trees.{Statement}
use Rattle.hy_ast.specs.Trees as tree
use Rattle.hy_parse.specs.Grammar.{Mark, HasItem, separated, name, word, column_def, literal}
use Rattle.hy_parse.specs.Grammar as grammar
use Rattle.hy_parse.specs.Parsing.{parsed}
use Rattle.hy_schema.specs.declared.Column.{Column}
use Rattle.hy_schema.specs.declared.TableDef.{TableDef}
use Rattle.hy_dump.specs.Dump.{is_key, columns_text, values_text, enclosed, create_line, insert_line}
use Rattle.hy_dump.specs.Writable.{IsName}
use Rattle.hy_dump.proofs.Tokens.{Gap, none, space, gap_text, blank, semicolon, stands, keyword_first, name_first, opening_first, closing_first, semicolon_first}
use Rattle.hy_dump.proofs.Writing.{IsParsedSo, Written, written_both, any_written, at_written, statement_parsed, create_most, insert_most, end_most}
use Rattle.hy_dump.proofs.Lists.{listed, AreFrom, behind_first, EachRead, list_reads}
use Rattle.hy_dump.proofs.ColumnsRead.{IsColumn, column_item, column_reads, columns_listed}
use Rattle.hy_dump.proofs.ValuesRead.{IsLiteral, IsAnyOf, value_item, value_reads, values_listed}

-- ---- a list in parentheses

-- trees that are so are written in parentheses from an offset on, a semicolon follows, and behind it and its line this is left
pub record Enclosed (D : Type 0) (write : D → List Mark) (Are : List D → Type 0) (bytes : List ℕ) (at : ℕ) (rest : List ℕ) : Type 0 where
  pub trees : List D
  pub end : ℕ
  pub span : Span
  pub written : Written bytes at (grammar.sign sign.LeftParen ∷ (separated write trees ++ grammar.sign sign.RightParen ∷ [])) end
  pub ends : token_at bytes end ≡ Ok (token.Sign sign.Semicolon, span)
  pub behind : drop span.end bytes ≡ 10 ∷ rest
  pub are : Are trees

module _ (X D : Type 0) (write : D → List Mark) (item : ℕ → X → List ℕ) (bytes : List ℕ) (P : X → Type 0) (Is : ℕ → X → D → Type 0) where
  pub enclosed_reads : EachRead X D write item bytes P Is → (x : X) (xs : List X) (at : ℕ) (rest : List ℕ) → AllByRecursion P (x ∷ xs)
      → drop at bytes ≡ 32 ∷ 40 ∷ (listed item 0 (x ∷ xs) ++ 41 ∷ 59 ∷ 10 ∷ rest)
      → Enclosed D write (AreFrom Is 0 (x ∷ xs)) bytes at rest
  enclosed_reads each x xs at rest all here =
      let last : List ℕ = 59 ∷ 10 ∷ rest in
      let list : List ℕ = listed item 0 (x ∷ xs) ++ 41 ∷ last in
      let opening = stands (token.Sign sign.LeftParen) bytes at space (40 ∷ []) list here (opening_first list) in
      let read = list_reads X D write item bytes P Is each x xs opening.span.end last all opening.behind in
      let closing = stands (token.Sign sign.RightParen) bytes read.end none (41 ∷ []) last read.behind (closing_first last) in
      let end = stands (token.Sign sign.Semicolon) bytes closing.span.end none (59 ∷ []) (10 ∷ rest) closing.behind (semicolon_first (10 ∷ rest)) in
      record {
        trees = read.tree;
        end = closing.span.end;
        span = end.span;
        written =
            written_both bytes at opening.span.end closing.span.end (grammar.sign sign.LeftParen ∷ []) (separated write read.tree ++ grammar.sign sign.RightParen ∷ [])
            (any_written bytes at (token.Sign sign.LeftParen) (40 ∷ []) list opening tt)
            (written_both bytes opening.span.end read.end closing.span.end (separated write read.tree) (grammar.sign sign.RightParen ∷ []) read.written
            (any_written bytes read.end (token.Sign sign.RightParen) (41 ∷ []) last closing tt));
        ends = end.token;
        behind = end.behind;
        are = read.is;
      }

  -- there are as many trees as items
  pub as_many : (number : ℕ) (xs : List X) (trees : List D) → AreFrom Is number xs trees → length trees ≡ length xs
  as_many number [] [] are = refl
  as_many number [] (tree ∷ trees) are = absurd are
  as_many number (x ∷ xs) [] are = absurd are
  as_many number (x ∷ xs) (tree ∷ trees) are = ap suc (as_many (suc number) xs trees are.1)

  pub has_item : (number : ℕ) (x : X) (xs : List X) (trees : List D) → AreFrom Is number (x ∷ xs) trees → HasItem trees
  has_item number x xs [] are = absurd are
  has_item number x xs (tree ∷ trees) are = tt

-- a list of items of at most four tokens has at most five for each
few_behind : (D : Type 0) (write : D → List Mark) → ((tree : D) → length (write tree) ≤ 4) → (trees : List D) → length (behind_first write trees) ≤ 5 * length trees
few_behind D write each [] = omega arith
few_behind D write each (tree ∷ trees) =
    let more : length (behind_first write trees) ≤ 5 * length trees = few_behind D write each trees in
    let one : length (write tree) ≤ 4 = each tree in
    let both : length (write tree ++ behind_first write trees) ≡ length (write tree) + length (behind_first write trees) =
    length-append (write tree) (behind_first write trees) in
    omega (arith, more, one, both)

few_marks : (D : Type 0) (write : D → List Mark) → ((tree : D) → length (write tree) ≤ 4) → (trees : List D) → length (separated write trees) ≤ 5 * length trees
few_marks D write each [] = omega arith
few_marks D write each (tree ∷ trees) =
    let more : length (behind_first write trees) ≤ 5 * length trees = few_behind D write each trees in
    let one : length (write tree) ≤ 4 = each tree in
    let both : length (write tree ++ behind_first write trees) ≡ length (write tree) + length (behind_first write trees) =
    length-append (write tree) (behind_first write trees) in
    omega (arith, more, one, both)

column_few : (def : ColumnDef) → length (column_def def) ≤ 4
column_few def = by_key def.key
  where
    by_key : (key : Bool) → length (name def.name ∷ word (grammar.kind def.kind) ∷ grammar.optional key (word keyword.Primary ∷ word keyword.Key ∷ [])) ≤ 4
    by_key true = omega arith
    by_key false = omega arith

literal_few : (l : Literal) → length (literal l) ≤ 4
literal_few (literals.Null span) = omega arith
literal_few (literals.Integer None digits) = omega arith
literal_few (literals.Integer (Some span) digits) = omega arith
literal_few (literals.Text span) = omega arith

-- ---- lines

enclosed_split : (list rest : List ℕ) → enclosed list ++ rest ≡ 32 ∷ 40 ∷ (list ++ 41 ∷ 59 ∷ 10 ∷ rest)
enclosed_split list rest = ap (λ (back : List ℕ). 32 ∷ 40 ∷ back) (append_assoc list (codes ");\n") rest)

-- a table's line was parsed
pub record CreateRead (bytes : List ℕ) (at : ℕ) (table : TableDef) (rest : List ℕ) : Type 0 where
  pub span : Span
  pub defs : List ColumnDef
  pub end : ℕ
  pub parsed : parsed bytes at ≡ Ok (tree.Create span defs, end)
  pub behind : drop end bytes ≡ rest
  pub name : slice_range bytes span.start span.end ≡ table.name
  pub columns : AreFrom (λ number. IsColumn bytes (is_key table.key number)) 0 table.columns defs
  pub some : HasItem defs

pub create_read : IsParsedSo → (bytes : List ℕ) (at : ℕ) (gap : Gap) (named : List ℕ) (column : Column) (columns : List Column) (key : Option ℕ) (rest : List ℕ)
    → IsName named → AllByRecursion (λ (column : Column). IsName column.name) (column ∷ columns) → length columns < 32
    → drop at bytes ≡ gap_text gap ++ (create_line (record { name = named; columns = column ∷ columns; key = key }) ++ rest)
    → CreateRead bytes at (record { name = named; columns = column ∷ columns; key = key }) (10 ∷ rest)
create_read parses bytes at gap named column columns key rest is_name are_names few here =
    let list : List ℕ = columns_text key 0 (column ∷ columns) in
    let from_list : List ℕ = 40 ∷ (listed (column_item key) 0 (column ∷ columns) ++ 41 ∷ 59 ∷ 10 ∷ rest) in
    let from_name : List ℕ = named ++ 32 ∷ from_list in
    let from_table : List ℕ = word_spelling keyword.Table ++ 32 ∷ from_name in
    let split : (codes "CREATE TABLE " ++ named ++ enclosed list) ++ rest ≡ codes "CREATE TABLE " ++ from_name =
    append_assoc (codes "CREATE TABLE " ++ named) (enclosed list) rest
    ∙ (append_assoc (codes "CREATE TABLE ") named (enclosed list ++ rest)
    ∙ ap (λ (back : List ℕ). codes "CREATE TABLE " ++ (named ++ back)) (enclosed_split list rest
    ∙ ap (λ (list : List ℕ). 32 ∷ 40 ∷ (list ++ 41 ∷ 59 ∷ 10 ∷ rest)) (columns_listed key 0 (column ∷ columns)))) in
    let create = stands (token.Reserved keyword.Create) bytes at gap (word_spelling keyword.Create) (32 ∷ from_table)
    (here ∙ ap (λ (back : List ℕ). gap_text gap ++ back) split) (keyword_first keyword.Create from_table blank) in
    let table = stands (token.Reserved keyword.Table) bytes create.span.end space (word_spelling keyword.Table) (32 ∷ from_name) create.behind
    (keyword_first keyword.Table from_name blank) in
    let title = stands token.Name bytes table.span.end space named (32 ∷ from_list) table.behind (name_first named from_list blank is_name) in
    let Is : ℕ → Column → ColumnDef → Type 0 = λ number. IsColumn bytes (is_key key number) in
    let P : Column → Type 0 = λ column. IsName column.name in
    let read = enclosed_reads Column ColumnDef column_def (column_item key) bytes P Is (column_reads bytes key) column columns title.span.end rest are_names title.behind in
    let many : length read.trees ≡ suc (length columns) =
    as_many Column ColumnDef column_def (column_item key) bytes P Is 0 (column ∷ columns) read.trees read.are in
    let marks : List Mark = grammar.sign sign.LeftParen ∷ (separated column_def read.trees ++ grammar.sign sign.RightParen ∷ []) in
    let short : length (separated column_def read.trees) ≤ 5 * length read.trees = few_marks ColumnDef column_def column_few read.trees in
    let both : length (separated column_def read.trees ++ grammar.sign sign.RightParen ∷ []) ≡ length (separated column_def read.trees) + 1 =
    length-append (separated column_def read.trees) (grammar.sign sign.RightParen ∷ []) in
    record {
      span = title.span;
      defs = read.trees;
      end = read.span.end;
      parsed =
          statement_parsed parses bytes at read.end read.span keyword.Create (word keyword.Table ∷ name title.span ∷ marks) (tree.Create title.span read.trees)
          create_most (refl {a = word keyword.Create ∷ word keyword.Table ∷ name title.span ∷ marks})
          (written_both bytes at create.span.end read.end (word keyword.Create ∷ []) (word keyword.Table ∷ name title.span ∷ marks)
          (any_written bytes at (token.Reserved keyword.Create) (word_spelling keyword.Create) (32 ∷ from_table) create tt)
          (written_both bytes create.span.end table.span.end read.end (word keyword.Table ∷ []) (name title.span ∷ marks)
          (any_written bytes create.span.end (token.Reserved keyword.Table) (word_spelling keyword.Table) (32 ∷ from_name) table tt)
          (written_both bytes table.span.end title.span.end read.end (name title.span ∷ []) marks
          (at_written bytes table.span.end token.Name named (32 ∷ from_list) title tt) read.written)))
          read.ends (omega (arith, many, short, both, few))
          (has_item Column ColumnDef column_def (column_item key) bytes P Is 0 column columns read.trees read.are)
          (omega arith);
      behind = read.behind;
      name = title.text;
      columns = read.are;
      some = has_item Column ColumnDef column_def (column_item key) bytes P Is 0 column columns read.trees read.are;
    }

-- a row's line was parsed
pub record InsertRead (bytes : List ℕ) (at : ℕ) (named : List ℕ) (row : List Value) (rest : List ℕ) : Type 0 where
  pub span : Span
  pub values : List Literal
  pub end : ℕ
  pub parsed : parsed bytes at ≡ Ok (tree.Insert span values, end)
  pub behind : drop end bytes ≡ rest
  pub name : slice_range bytes span.start span.end ≡ named
  pub are : AreFrom (λ number. IsLiteral bytes) 0 row values

pub insert_read : IsParsedSo → (bytes : List ℕ) (at : ℕ) (gap : Gap) (named : List ℕ) (value : Value) (row : List Value) (rest : List ℕ)
    → IsName named → AllByRecursion IsAnyOf (value ∷ row) → length row < 32
    → drop at bytes ≡ gap_text gap ++ (insert_line named (value ∷ row) ++ rest) → InsertRead bytes at named (value ∷ row) (10 ∷ rest)
insert_read parses bytes at gap named value row rest is_name may few here =
    let list : List ℕ = values_text 0 (value ∷ row) in
    let from_list : List ℕ = 40 ∷ (listed value_item 0 (value ∷ row) ++ 41 ∷ 59 ∷ 10 ∷ rest) in
    let from_values : List ℕ = word_spelling keyword.Values ++ 32 ∷ from_list in
    let from_name : List ℕ = named ++ 32 ∷ from_values in
    let from_into : List ℕ = word_spelling keyword.Into ++ 32 ∷ from_name in
    let split : (codes "INSERT INTO " ++ named ++ codes " VALUES" ++ enclosed list) ++ rest ≡ codes "INSERT INTO " ++ from_name =
    append_assoc ((codes "INSERT INTO " ++ named) ++ codes " VALUES") (enclosed list) rest
    ∙ (append_assoc (codes "INSERT INTO " ++ named) (codes " VALUES") (enclosed list ++ rest)
    ∙ (append_assoc (codes "INSERT INTO ") named (codes " VALUES" ++ (enclosed list ++ rest))
    ∙ ap (λ (back : List ℕ). codes "INSERT INTO " ++ (named ++ (codes " VALUES" ++ back))) (enclosed_split list rest
    ∙ ap (λ (list : List ℕ). 32 ∷ 40 ∷ (list ++ 41 ∷ 59 ∷ 10 ∷ rest)) (values_listed 0 (value ∷ row))))) in
    let insert = stands (token.Reserved keyword.Insert) bytes at gap (word_spelling keyword.Insert) (32 ∷ from_into)
    (here ∙ ap (λ (back : List ℕ). gap_text gap ++ back) split) (keyword_first keyword.Insert from_into blank) in
    let into = stands (token.Reserved keyword.Into) bytes insert.span.end space (word_spelling keyword.Into) (32 ∷ from_name) insert.behind
    (keyword_first keyword.Into from_name blank) in
    let title = stands token.Name bytes into.span.end space named (32 ∷ from_values) into.behind (name_first named from_values blank is_name) in
    let values = stands (token.Reserved keyword.Values) bytes title.span.end space (word_spelling keyword.Values) (32 ∷ from_list) title.behind
    (keyword_first keyword.Values from_list blank) in
    let Is : ℕ → Value → Literal → Type 0 = λ number. IsLiteral bytes in
    let read = enclosed_reads Value Literal literal value_item bytes IsAnyOf Is (value_reads bytes) value row values.span.end rest may values.behind in
    let many : length read.trees ≡ suc (length row) = as_many Value Literal literal value_item bytes IsAnyOf Is 0 (value ∷ row) read.trees read.are in
    let marks : List Mark = grammar.sign sign.LeftParen ∷ (separated literal read.trees ++ grammar.sign sign.RightParen ∷ []) in
    let short : length (separated literal read.trees) ≤ 5 * length read.trees = few_marks Literal literal literal_few read.trees in
    let both : length (separated literal read.trees ++ grammar.sign sign.RightParen ∷ []) ≡ length (separated literal read.trees) + 1 =
    length-append (separated literal read.trees) (grammar.sign sign.RightParen ∷ []) in
    record {
      span = title.span;
      values = read.trees;
      end = read.span.end;
      parsed =
          statement_parsed parses bytes at read.end read.span keyword.Insert (word keyword.Into ∷ name title.span ∷ word keyword.Values ∷ marks) (tree.Insert title.span read.trees)
          insert_most (refl {a = word keyword.Insert ∷ word keyword.Into ∷ name title.span ∷ word keyword.Values ∷ marks})
          (written_both bytes at insert.span.end read.end (word keyword.Insert ∷ []) (word keyword.Into ∷ name title.span ∷ word keyword.Values ∷ marks)
          (any_written bytes at (token.Reserved keyword.Insert) (word_spelling keyword.Insert) (32 ∷ from_into) insert tt)
          (written_both bytes insert.span.end into.span.end read.end (word keyword.Into ∷ []) (name title.span ∷ word keyword.Values ∷ marks)
          (any_written bytes insert.span.end (token.Reserved keyword.Into) (word_spelling keyword.Into) (32 ∷ from_name) into tt)
          (written_both bytes into.span.end title.span.end read.end (name title.span ∷ []) (word keyword.Values ∷ marks)
          (at_written bytes into.span.end token.Name named (32 ∷ from_values) title tt)
          (written_both bytes title.span.end values.span.end read.end (word keyword.Values ∷ []) marks
          (any_written bytes title.span.end (token.Reserved keyword.Values) (word_spelling keyword.Values) (32 ∷ from_list) values tt) read.written))))
          read.ends (omega (arith, many, short, both, few))
          (has_item Value Literal literal value_item bytes IsAnyOf Is 0 value row read.trees read.are)
          (omega arith);
      behind = read.behind;
      name = title.text;
      are = read.are;
    }

-- ---- END

pub record EndRead (bytes : List ℕ) (at : ℕ) (rest : List ℕ) : Type 0 where
  pub end : ℕ
  pub parsed : parsed bytes at ≡ Ok (tree.End, end)
  pub behind : drop end bytes ≡ rest

pub end_read : IsParsedSo → (bytes : List ℕ) (at : ℕ) (gap : Gap) (rest : List ℕ) → drop at bytes ≡ gap_text gap ++ (codes "END;" ++ rest) → EndRead bytes at rest
end_read parses bytes at gap rest here =
    let word_end = stands (token.Reserved keyword.End) bytes at gap (word_spelling keyword.End) (59 ∷ rest) here (keyword_first keyword.End rest semicolon) in
    let last = stands (token.Sign sign.Semicolon) bytes word_end.span.end none (59 ∷ []) rest word_end.behind (semicolon_first rest) in
    record {
      end = last.span.end;
      parsed =
          statement_parsed parses bytes at word_end.span.end last.span keyword.End [] tree.End end_most refl
          (any_written bytes at (token.Reserved keyword.End) (word_spelling keyword.End) (59 ∷ rest) word_end tt)
          last.token (omega arith) tt (omega arith);
      behind = last.behind;
    }
