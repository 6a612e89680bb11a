-- What lines that make tables and insert rows tell, one after another.
use Rattle.std.specs.Prelude.{◌≢◌, ◌*◌, is_some, Option}
use Rattle.std.specs.List.{flat_map, AllByRecursion, AllZip}
use Rattle.std.proofs.Common.{◌≡◌, ℕ, zero, suc, ◌+◌, ◌<◌, ◌≤◌, false, List, [], ◌∷◌, ◌++◌, length, map, drop, get_or, Some, None, Ok, refl, sym, ap, subst, ◌∙◌, append_assoc, arith}
use Rattle.std.proofs.lemmas.List.{append-nil, length-append}
use Rattle.std.proofs.Math.Seq.{get_or-append_seam}
use Rattle.std.specs.declared.cmp.Ordering.TheVariants.{Equal}
use Rattle.hy_token.specs.declared.Span.{Span}
use Rattle.hy_value.specs.declared.Value.{Value}
use Rattle.hy_value.specs.declared.Value.TheVariants.{Null}
use Rattle.hy_value.specs.Order.{value_cmp}
use Rattle.hy_ast.specs.declared.ColumnDef.{ColumnDef}
use Rattle.hy_ast.specs.declared.Literal.{Literal}
use Rattle.hy_ast.specs.Trees.{Statement}
use Rattle.hy_ast.specs.Trees as tree
use Rattle.hy_parse.specs.Parsing.{parsed}
use Rattle.hy_schema.specs.declared.Column.{Column}
use Rattle.hy_schema.specs.declared.TableDef.{TableDef}
use Rattle.hy_schema.specs.Names.{table_number}
use Rattle.hy_bound.specs.Fits.{FitsRows, HaveOwnKeys}
use Rattle.hy_bound.specs.Predicate.{column_of}
use Rattle.hy_bind.specs.Shapes.{defined_shape}
use Rattle.hy_script.specs.declared.Options.{Options}
use Rattle.hy_script.specs.declared.sofar.SoFar.{SoFar}
use Rattle.hy_script.specs.declared.stocks.Stock.{Stock}
use Rattle.hy_script.specs.Definitions.{AreDefined, IsStock}
use Rattle.hy_script.specs.Growing.{after, table_def, with_first_row, with_table}
use Rattle.hy_script.specs.Refusals.{create_code, first_row_code, refusal_in}
use Rattle.hy_script.specs.Sentences.{IsDefinition, NoneIsRefused, after_all}
use Rattle.hy_script.specs.Stocks.{key_there, value_in, with_row}
use Rattle.hy_parse.specs.Grammar.{HasItem}
use Rattle.hy_dump.specs.Dump.{insert_line}
use Rattle.hy_dump.specs.Writable.{IsName, IsRowOf}
use Rattle.hy_dump.proofs.Tokens.{Gap, feed, gap_text}
use Rattle.hy_dump.proofs.Writing.{IsParsedSo}
use Rattle.hy_dump.proofs.ValuesRead.{IsAnyOf}
use Rattle.hy_dump.proofs.LinesRead.{insert_read}
use Rattle.hy_dump.proofs.TablesTaken.{defining}
use Rattle.hy_dump.proofs.RowsTaken.{HasKey, insert_taken, none_of}

-- ---- statements one after another

-- from an offset on the bytes spell these statements, up to another offset
abbrev pub SpellsTo : List ℕ → ℕ → List Statement → ℕ → Type 0
SpellsTo bytes at [] end = at ≡ end
SpellsTo bytes at (statement ∷ rest) end = (next : ℕ) × (parsed bytes at ≡ Ok (statement, next)) × SpellsTo bytes next rest end

-- from an offset on definitions stand that are taken and make this script of that one, and this is left behind them
pub record Told (bytes : List ℕ) (options : Options) (at : ℕ) (sofar grown : SoFar) (rest : List ℕ) : Type 0 where
  pub statements : List Statement
  pub end : ℕ
  pub gap : Gap
  pub definitions : AllByRecursion IsDefinition statements
  pub spelled : SpellsTo bytes at statements end
  pub free : NoneIsRefused bytes options sofar statements
  pub says : after_all bytes sofar statements ≡ grown
  pub behind : drop end bytes ≡ gap_text gap ++ rest

pub told_none : (bytes : List ℕ) (options : Options) (at : ℕ) (gap : Gap) (sofar : SoFar) (rest : List ℕ) → drop at bytes ≡ gap_text gap ++ rest
    → Told bytes options at sofar sofar rest
told_none bytes options at gap sofar rest here =
    record { statements = []; end = at; gap = gap; definitions = tt; spelled = refl; free = tt; says = refl; behind = here }

-- a statement before others
pub told_more : (bytes : List ℕ) (options : Options) (at next : ℕ) (sofar mid grown : SoFar) (rest : List ℕ) (s : Statement) → IsDefinition s
    → parsed bytes at ≡ Ok (s, next) → refusal_in bytes options sofar s ≡ None → after bytes sofar s ≡ mid
    → Told bytes options next mid grown rest → Told bytes options at sofar grown rest
told_more bytes options at next sofar mid grown rest s defines is free says told = record {
  statements = s ∷ told.statements;
  end = told.end;
  gap = told.gap;
  definitions = (defines, told.definitions);
  spelled = (next, is, told.spelled);
  free = (free, subst (λ (so : SoFar). NoneIsRefused bytes options so told.statements) (sym says) told.free);
  says = ap (λ (so : SoFar). after_all bytes so told.statements) says ∙ told.says;
  behind = told.behind;
}

both_define : (one other : List Statement) → AllByRecursion IsDefinition one → AllByRecursion IsDefinition other → AllByRecursion IsDefinition (one ++ other)
both_define [] other first second = second
both_define (s ∷ one) other first second = (first.0, both_define one other first.1 second)

both_spelled : (bytes : List ℕ) (at mid end : ℕ) (one other : List Statement) → SpellsTo bytes at one mid → SpellsTo bytes mid other end
    → SpellsTo bytes at (one ++ other) end
both_spelled bytes at mid end [] other first second = subst (λ (n : ℕ). SpellsTo bytes n other end) (sym first) second
both_spelled bytes at mid end (s ∷ one) other first second = (first.0, first.1, both_spelled bytes first.0 mid end one other first.2 second)

pub both_free : (bytes : List ℕ) (options : Options) (sofar : SoFar) (one other : List Statement) → NoneIsRefused bytes options sofar one
    → NoneIsRefused bytes options (after_all bytes sofar one) other → NoneIsRefused bytes options sofar (one ++ other)
both_free bytes options sofar [] other first second = second
both_free bytes options sofar (s ∷ one) other first second = (first.0, both_free bytes options (after bytes sofar s) one other first.1 second)

pub both_said : (bytes : List ℕ) (sofar : SoFar) (one other : List Statement) → after_all bytes sofar (one ++ other) ≡ after_all bytes (after_all bytes sofar one) other
both_said bytes sofar [] other = refl
both_said bytes sofar (s ∷ one) other = both_said bytes (after bytes sofar s) one other

-- statements before others
pub told_both : (bytes : List ℕ) (options : Options) (at : ℕ) (sofar mid grown : SoFar) (text rest : List ℕ) (first : Told bytes options at sofar mid text)
    → Told bytes options first.end mid grown rest → Told bytes options at sofar grown rest
told_both bytes options at sofar mid grown text rest first second = record {
  statements = first.statements ++ second.statements;
  end = second.end;
  gap = second.gap;
  definitions = both_define first.statements second.statements first.definitions second.definitions;
  spelled = both_spelled bytes at first.end second.end first.statements second.statements first.spelled second.spelled;
  free =
      both_free bytes options sofar first.statements second.statements first.free
      (subst (λ (so : SoFar). NoneIsRefused bytes options so second.statements) (sym first.says) second.free);
  says =
      both_said bytes sofar first.statements second.statements
      ∙ (ap (λ (so : SoFar). after_all bytes so second.statements) first.says ∙ second.says);
  behind = second.behind;
}

-- ---- what is cited

-- that definitions which are taken fit, and values that tie are one
pub record Laws (options : Options) : Type 0 where
  pub parses : IsParsedSo
  pub table : (script : List ℕ) (sofar : SoFar) (table : Span) (columns : List ColumnDef) → HasItem columns
      → create_code script sofar table columns ≡ None → AreDefined options sofar → AreDefined options (with_table sofar (table_def script table columns))
  pub row : (script : List ℕ) (sofar : SoFar) (table : Span) (values : List Literal)
      → first_row_code script options sofar (tree.Insert table values) table values ≡ None → AreDefined options sofar
      → AreDefined options (with_first_row script sofar table values)
  pub ties : (x y : Value) → value_cmp x y ≡ Equal → x ≡ y

-- ---- the rows of a table

-- the rows that came and those that come each have their own key, if the table has one
abbrev pub OwnKeys : Option ℕ → List (List Value) → Type 0
OwnKeys None rows = Unit {0}
OwnKeys (Some key) rows = HaveOwnKeys key rows

pub own_keys : (room : ℕ) (table : TableDef) (rows : List (List Value)) → FitsRows room (defined_shape table) rows → OwnKeys table.key rows
own_keys room table rows fit = by_key table.key refl
  where
    by_key : (key : Option ℕ) → table.key ≡ key → OwnKeys key rows
    by_key None is = tt
    by_key (Some key) is = fit.keys key is

-- the row at the seam has a key
has_key : (key : Option ℕ) (came : List (List Value)) (row : List Value) (come : List (List Value)) → OwnKeys key (came ++ row ∷ come) → HasKey key row
has_key None came row come own = tt
has_key (Some key) came row come own =
    let within : length came < length (came ++ row ∷ come) = omega (arith, length-append came (row ∷ come)) in
    subst (λ (found : List Value). column_of found key ≢ Null) (get_or-append_seam came row come []) (own.known (length came) [] within)

-- the rows before another have other keys than it
earlier_differ : (key : ℕ) (came : List (List Value)) (row : List Value)
    → ((i : ℕ) → i < length came → column_of (get_or came i []) key ≢ column_of row key)
    → AllByRecursion (λ (other : Value). other ≢ column_of row key) (map (λ row. value_in row key) came)
earlier_differ key [] row differ = tt
earlier_differ key (first ∷ came) row differ =
    (differ 0 (omega arith), earlier_differ key came row (λ i below. differ (suc i) (omega (arith, below))))

get_earlier : (came more : List (List Value)) (i : ℕ) → i < length came → get_or (came ++ more) i [] ≡ get_or came i []
get_earlier [] more i below = absurd (omega (arith, below))
get_earlier (row ∷ came) more zero below = refl
get_earlier (row ∷ came) more (suc i) below = get_earlier came more i (omega (arith, below))

-- no row that came has the key of the row at the seam
not_there : (laws : (x y : Value) → value_cmp x y ≡ Equal → x ≡ y) (room : ℕ) (table : TableDef) (stock : Stock) (row : List Value) (come : List (List Value))
    → IsStock room (defined_shape table) stock → OwnKeys table.key (stock.rows ++ row ∷ come) → key_there stock row ≡ false
not_there ties room table stock row come is own = by_key stock.key refl
  where
    by_key : (key : Option ℕ) → stock.key ≡ key → key_there (record { key = key; rows = stock.rows; keys = stock.keys }) row ≡ false
    by_key None has = refl
    by_key (Some key) has =
        let of_table : table.key ≡ Some key = sym is.key ∙ has in
        let keys : HaveOwnKeys key (stock.rows ++ row ∷ come) = subst (λ (key : Option ℕ). OwnKeys key (stock.rows ++ row ∷ come)) of_table own in
        let within : length stock.rows < length (stock.rows ++ row ∷ come) = omega (arith, length-append stock.rows (row ∷ come)) in
        let at_seam : get_or (stock.rows ++ row ∷ come) (length stock.rows) [] ≡ row = get_or-append_seam stock.rows row come [] in
        let differ : (i : ℕ) → i < length stock.rows → column_of (get_or stock.rows i []) key ≢ column_of row key =
        λ (i : ℕ) (below : i < length stock.rows). λ same. keys.differ i (length stock.rows) [] below within
        (ap (λ (row : List Value). column_of row key) (get_earlier stock.rows (row ∷ come) i below)
        ∙ (same ∙ ap (λ (row : List Value). column_of row key) (sym at_seam))) in
        is.keys key of_table (value_in row key) ∙ none_of ties (map (λ row. value_in row key) stock.rows) (value_in row key) (earlier_differ key stock.rows row differ)

-- ---- the rows of a table

-- the stock of the last table
last_stock : (room : ℕ) (done : List TableDef) (before : List Stock) (table : TableDef) (stock : Stock) → length before ≡ length done
    → AllZip (IsStock room) (map defined_shape (done ++ table ∷ [])) (before ++ stock ∷ []) → IsStock room (defined_shape table) stock
last_stock room [] [] table stock long all = all.0
last_stock room [] (first ∷ before) table stock long all = absurd (omega (arith, long))
last_stock room (def ∷ done) [] table stock long all = absurd (omega (arith, long))
last_stock room (def ∷ done) (first ∷ before) table stock long all = last_stock room done before table stock (omega (arith, long)) all.1

any_of : (columns : List Column) (row : List Value) → IsRowOf columns row → AllByRecursion IsAnyOf row
any_of [] [] may = tt
any_of [] (value ∷ row) may = absurd may
any_of (column ∷ columns) [] may = absurd may
any_of (column ∷ columns) (value ∷ row) may = ((column.kind, may.0), any_of columns row may.1)

row_long : (columns : List Column) (row : List Value) → IsRowOf columns row → length row ≡ length columns
row_long [] [] may = refl
row_long [] (value ∷ row) may = absurd may
row_long (column ∷ columns) [] may = absurd may
row_long (column ∷ columns) (value ∷ row) may = ap suc (row_long columns row may.1)

-- after these rows the last table has this stock
pub record RowsTold (bytes : List ℕ) (options : Options) (at : ℕ) (catalog : List TableDef) (before : List Stock) (stock : Stock) (come : List (List Value)) (rest : List ℕ) : Type 0 where
  pub last : Stock
  pub rows : last.rows ≡ stock.rows ++ come
  pub defined : AreDefined options (defining catalog (before ++ last ∷ []))
  pub told : Told bytes options at (defining catalog (before ++ stock ∷ [])) (defining catalog (before ++ last ∷ [])) rest

-- what is known of a table with rows behind tables that were made
pub record ComesNext (done : List TableDef) (before : List Stock) (table : TableDef) : Type 0 where
  pub long : length before ≡ length done
  pub other : is_some (table_number done table.name) ≡ false
  pub named : IsName table.name
  pub few : length table.columns ≤ 32

pub rows_told : (options : Options) → Laws options → (bytes : List ℕ) (done : List TableDef) (before : List Stock) (named : List ℕ) (column : Column) (columns : List Column) (key : Option ℕ)
    → let table : TableDef = record { name = named; columns = column ∷ columns; key = key } in ComesNext done before table
    → (come : List (List Value)) (stock : Stock) (at : ℕ) (gap : Gap) (rest : List ℕ) → AreDefined options (defining (done ++ table ∷ []) (before ++ stock ∷ []))
    → AllByRecursion (IsRowOf (column ∷ columns)) come → OwnKeys key (stock.rows ++ come) → length stock.rows + length come ≤ options.chunks * options.rows
    → drop at bytes ≡ gap_text gap ++ (flat_map (insert_line named) come ++ rest) → RowsTold bytes options at (done ++ table ∷ []) before stock come rest
rows_told options laws bytes done before named column columns key stands [] stock at gap rest defined typed own room here =
    let table : TableDef = record { name = named; columns = column ∷ columns; key = key } in
    record {
      last = stock;
      rows = sym (append-nil stock.rows);
      defined = defined;
      told = told_none bytes options at gap (defining (done ++ table ∷ []) (before ++ stock ∷ [])) rest here;
    }
rows_told options laws bytes done before named column columns key stands ([] ∷ come) stock at gap rest defined typed own room here = absurd typed.0
rows_told options laws bytes done before named column columns key stands ((value ∷ row) ∷ come) stock at gap rest defined typed own room here =
    let table : TableDef = record { name = named; columns = column ∷ columns; key = key } in
    let catalog : List TableDef = done ++ table ∷ [] in
    let all : List Value = value ∷ row in
    let more : List ℕ = flat_map (insert_line named) come in
    let split : (insert_line named all ++ more) ++ rest ≡ insert_line named all ++ (more ++ rest) = append_assoc (insert_line named all) more rest in
    let short : length all ≡ length (column ∷ columns) = row_long (column ∷ columns) all typed.0 in
    let few : length (column ∷ columns) ≤ 32 = stands.few in
    let read = insert_read laws.parses bytes at gap named value row (more ++ rest) stands.named (any_of (column ∷ columns) all typed.0) (omega (arith, short, few))
    (here ∙ ap (λ (back : List ℕ). gap_text gap ++ back) split) in
    let is_stock : IsStock (options.chunks * options.rows) (defined_shape table) stock = last_stock (options.chunks * options.rows) done before table stock stands.long defined.stocks in
    let taken = insert_taken bytes options done table before stock all read.span read.values stands.long read.name read.are (record {
      other = stands.other;
      typed = typed.0;
      key = has_key key stock.rows all come own;
      few = omega (arith, room);
      own = not_there laws.ties (options.chunks * options.rows) table stock all come is_stock own;
    }) in
    let next : Stock = with_row stock all in
    let fits : AreDefined options (defining catalog (before ++ next ∷ [])) =
    subst (AreDefined options) taken.says (laws.row bytes (defining catalog (before ++ stock ∷ [])) read.span read.values taken.free defined) in
    let keys : OwnKeys key (next.rows ++ come) = subst (OwnKeys key) (sym (append_assoc stock.rows (all ∷ []) come)) own in
    let longer : length next.rows ≡ length stock.rows + 1 = length-append stock.rows (all ∷ []) in
    let others = rows_told options laws bytes done before named column columns key stands come next read.end feed rest fits typed.1 keys (omega (arith, longer, room)) read.behind in
    record {
      last = others.last;
      rows = others.rows ∙ append_assoc stock.rows (all ∷ []) come;
      defined = others.defined;
      told =
          told_more bytes options at read.end (defining catalog (before ++ stock ∷ [])) (defining catalog (before ++ next ∷ [])) (defining catalog (before ++ others.last ∷ [])) rest
          (tree.Insert read.span read.values) tt read.parsed taken.free taken.says others.told;
    }
