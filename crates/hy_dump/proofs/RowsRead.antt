-- The first rows of a script that was read can be written: they have the types of their columns, and their texts are UTF-8.
use Rattle.std.specs.Prelude.{ℤ, Bool, is_none, is_some, nat_le, not, slice_index_or, slice_set, Option}
use Rattle.std.specs.List.{list_all, AllByRecursion, AllZip}
use Rattle.std.specs.Option.{option_map_or}
use Rattle.std.specs.Str.{IsUtf8}
use Rattle.std.proofs.Common.{◌≡◌, ℕ, zero, suc, ◌≤◌, true, false, cond, List, [], ◌∷◌, ◌++◌, length, map, Some, None, Ok, refl, sym, subst, arith}
use Rattle.std.proofs.lemmas.Bool.{and_parts, leb-true}
use Rattle.std.proofs.lemmas.List.Elements.{recursion_from_All, All-from_recursion}
use Rattle.std.proofs.lemmas.Str.{IsUtf8-nil}
use Rattle.hy_token.specs.declared.Sign.TheVariants.{RightParen, Semicolon}
use Rattle.hy_token.specs.declared.Span.{Span}
use Rattle.hy_value.specs.declared.Kind.{Kind}
use Rattle.hy_value.specs.declared.Kind.TheVariants as kinds
use Rattle.hy_value.specs.declared.Value.{Value}
use Rattle.hy_value.specs.declared.Value.TheVariants as values
use Rattle.hy_value.specs.TextBytes.{IsText, is_text, text_of}
use Rattle.hy_ast.specs.declared.Literal.{Literal}
use Rattle.hy_ast.specs.declared.Literal.TheVariants as literals
use Rattle.hy_ast.specs.Trees.{Statement}
use Rattle.hy_ast.specs.Trees as tree
use Rattle.hy_parse.specs.Grammar.{Mark, literal, marks, separated}
use Rattle.hy_parse.specs.Grammar as grammar
use Rattle.hy_parse.specs.Parsing.{parsed}
use Rattle.hy_schema.specs.declared.Column.{Column}
use Rattle.hy_schema.specs.declared.TableDef.{TableDef}
use Rattle.hy_schema.specs.Names.{table_number}
use Rattle.hy_bound.specs.Fits.{FitsRows}
use Rattle.hy_bind.specs.Literals.{fits, integer_of, integer_value, literal_fault, literal_kind, literal_value, number_of, signed, text_of_span, unquoted}
use Rattle.hy_bind.specs.Refusals.{agree, fault_if, first_of, rank}
use Rattle.hy_bind.specs.Shapes.{catalog_shapes}
use Rattle.hy_bind.specs.Statements.{value_fault, values_fault}
use Rattle.hy_bind.specs.declared.refusals.BindFault.{BindFault}
use Rattle.hy_bind.specs.declared.refusals.BindFault.TheVariants as fault
use Rattle.hy_script.specs.declared.Options.{Options}
use Rattle.hy_script.specs.declared.Script.{Script}
use Rattle.hy_script.specs.declared.sofar.Section.{Section}
use Rattle.hy_script.specs.declared.sofar.Section.TheVariants as section
use Rattle.hy_script.specs.declared.sofar.SoFar.{SoFar}
use Rattle.hy_script.specs.declared.stocks.Stock.{Stock}
use Rattle.hy_script.specs.Binding.{WasGiven, WereGiven}
use Rattle.hy_script.specs.Growing.{after, key_from, nothing, with_insert}
use Rattle.hy_script.specs.Refusals.{stock_at}
use Rattle.hy_script.specs.Sentences.{IsAccepted, SpellsFrom, after_all}
use Rattle.hy_script.specs.Stocks.{no_rows, with_row}
use Rattle.hy_dump.specs.Writable.{AreRowsOf, Has64Bits, IsOfKind, IsRowOf}
use Rattle.hy_dump.proofs.Lists.{behind_first}
use Rattle.hy_dump.proofs.TokensRead.{IsSound, all_more, back_all, front_all, parsed_sound}
use Rattle.hy_dump.proofs.Writing.{IsParsedSo}

-- ---- the texts of a statement

-- a value that is a text is UTF-8
abbrev HasUtf8 : Value → Type 0
HasUtf8 (values.Text text) = IsUtf8 text
HasUtf8 values.Null = Unit {0}
HasUtf8 (values.Int n) = Unit {0}

text_utf8 : (text : List ℕ) → IsUtf8 text → IsUtf8 (text_of text)
text_utf8 text utf8 = by_test (is_text text)
  where
    by_test : (so : Bool) → IsUtf8 (cond so text [])
    by_test true = utf8
    by_test false = IsUtf8-nil

integer_utf8 : (found : Option ℤ) → HasUtf8 (integer_value found)
integer_utf8 None = tt
integer_utf8 (Some n) = tt

literal_utf8 : (bytes : List ℕ) (l : Literal) → AllByRecursion (IsSound bytes) (literal l) → HasUtf8 (literal_value bytes l)
literal_utf8 bytes (literals.Null span) all = tt
literal_utf8 bytes (literals.Integer minus digits) all = integer_utf8 (integer_of (is_some minus) (number_of (text_of_span bytes digits)))
literal_utf8 bytes (literals.Text span) all = text_utf8 (unquoted (text_of_span bytes span)) all.0

-- the values of literals
abbrev AreUtf8 : List ℕ → List Literal → Type 0
AreUtf8 bytes values = AllByRecursion HasUtf8 (map (literal_value bytes) values)

more_utf8 : (bytes : List ℕ) (values : List Literal) → AllByRecursion (IsSound bytes) (behind_first literal values) → AreUtf8 bytes values
more_utf8 bytes [] all = tt
more_utf8 bytes (l ∷ values) all = (
  literal_utf8 bytes l (front_all (IsSound bytes) (literal l) (behind_first literal values) all.1),
  more_utf8 bytes values (back_all (IsSound bytes) (literal l) (behind_first literal values) all.1),
)

values_utf8 : (bytes : List ℕ) (values : List Literal) → AllByRecursion (IsSound bytes) (separated literal values) → AreUtf8 bytes values
values_utf8 bytes [] all = tt
values_utf8 bytes (l ∷ values) all = (
  literal_utf8 bytes l (front_all (IsSound bytes) (literal l) (behind_first literal values) all),
  more_utf8 bytes values (back_all (IsSound bytes) (literal l) (behind_first literal values) all),
)

row_utf8 : (bytes : List ℕ) (span : Span) (values : List Literal) → AllByRecursion (IsSound bytes) (marks (tree.Insert span values)) → AreUtf8 bytes values
row_utf8 bytes span values all =
    let closing : List Mark = grammar.sign RightParen ∷ [] in
    let last : List Mark = grammar.sign Semicolon ∷ [] in
    values_utf8 bytes values
    (front_all (IsSound bytes) (separated literal values) closing (front_all (IsSound bytes) (separated literal values ++ closing) last all.1.1.1.1.1))

-- ---- the first rows of a script so far

abbrev RowsUtf8 : List (List Value) → Type 0
RowsUtf8 rows = AllByRecursion (λ (row : List Value). AllByRecursion HasUtf8 row) rows

abbrev StocksUtf8 : List Stock → Type 0
StocksUtf8 stocks = AllByRecursion (λ (stock : Stock). RowsUtf8 stock.rows) stocks

found_utf8 : (stocks : List Stock) (number : ℕ) → StocksUtf8 stocks → RowsUtf8 (slice_index_or stocks number (no_rows None)).rows
found_utf8 [] number all = tt
found_utf8 (stock ∷ stocks) zero all = all.0
found_utf8 (stock ∷ stocks) (suc number) all = found_utf8 stocks number all.1

stock_utf8 : (number : Option ℕ) (stocks : List Stock) → StocksUtf8 stocks → RowsUtf8 (stock_at number stocks).rows
stock_utf8 None stocks all = tt
stock_utf8 (Some number) stocks all = found_utf8 stocks number all

set_utf8 : (stocks : List Stock) (number : ℕ) (stock : Stock) → StocksUtf8 stocks → RowsUtf8 stock.rows → StocksUtf8 (slice_set stocks number stock)
set_utf8 [] number stock all is = tt
set_utf8 (first ∷ stocks) zero stock all is = (is, all.1)
set_utf8 (first ∷ stocks) (suc number) stock all is = (all.0, set_utf8 stocks number stock all.1 is)

insert_utf8 : (bytes : List ℕ) (sofar : SoFar) (at : Section) (s : Statement) (span : Span) (values : List Literal) → AreUtf8 bytes values
    → StocksUtf8 sofar.stocks → StocksUtf8 (with_insert bytes sofar at s span values).stocks
insert_utf8 bytes sofar at s span values row all = by_section at
  where
    first : StocksUtf8 (with_insert bytes sofar section.Defining s span values).stocks
    first =
        let stock : Stock = stock_at (table_number sofar.catalog (text_of_span bytes span)) sofar.stocks in
        set_utf8 sofar.stocks (option_map_or (λ number. number) (table_number sofar.catalog (text_of_span bytes span)) 0) (with_row stock (map (literal_value bytes) values)) all
        (all_more (λ (row : List Value). AllByRecursion HasUtf8 row) stock.rows (map (literal_value bytes) values)
        (stock_utf8 (table_number sofar.catalog (text_of_span bytes span)) sofar.stocks all) row)

    by_section : (at : Section) → StocksUtf8 (with_insert bytes sofar at s span values).stocks
    by_section section.Defining = first
    by_section (section.Between session) = first
    by_section (section.Within session txn) = all
    by_section section.Scheduled = first

step_utf8 : IsParsedSo → (bytes : List ℕ) → IsUtf8 bytes → (sofar : SoFar) (s : Statement) (at end : ℕ) → parsed bytes at ≡ Ok (s, end)
    → StocksUtf8 sofar.stocks → StocksUtf8 (after bytes sofar s).stocks
step_utf8 parses bytes utf8 sofar (tree.Create span defs) at end is all =
    all_more (λ (stock : Stock). RowsUtf8 stock.rows) sofar.stocks (no_rows (key_from 0 defs)) all tt
step_utf8 parses bytes utf8 sofar (tree.Insert span values) at end is all =
    insert_utf8 bytes sofar sofar.section (tree.Insert span values) span values
    (row_utf8 bytes span values (parsed_sound parses bytes utf8 at end (tree.Insert span values) is)) all
step_utf8 parses bytes utf8 sofar s at end is all = all

all_utf8 : IsParsedSo → (bytes : List ℕ) → IsUtf8 bytes → (statements : List Statement) (sofar : SoFar) (at : ℕ) → SpellsFrom bytes at statements
    → StocksUtf8 sofar.stocks → StocksUtf8 (after_all bytes sofar statements).stocks
all_utf8 parses bytes utf8 [] sofar at spelled all = all
all_utf8 parses bytes utf8 (s ∷ rest) sofar at spelled all =
    all_utf8 parses bytes utf8 rest (after bytes sofar s) spelled.0 spelled.2 (step_utf8 parses bytes utf8 sofar s at spelled.0 spelled.1 all)

-- tables of rows whose texts are UTF-8
abbrev TablesUtf8 : List (List (List Value)) → Type 0
TablesUtf8 tables = AllByRecursion RowsUtf8 tables

stocks_rows : (stocks : List Stock) → StocksUtf8 stocks → TablesUtf8 (map (λ stock. stock.rows) stocks)
stocks_rows [] all = tt
stocks_rows (stock ∷ stocks) all = (all.0, stocks_rows stocks all.1)

accepted_utf8 : IsParsedSo → (bytes : List ℕ) (options : Options) (script : Script) → IsAccepted bytes options script → TablesUtf8 script.rows
accepted_utf8 parses bytes options script accepted =
    let grown : SoFar = after_all bytes nothing accepted.statements in
    subst (λ (script : Script). TablesUtf8 script.rows) (sym accepted.says)
    (stocks_rows grown.stocks (all_utf8 parses bytes accepted.utf8 accepted.statements nothing 0 accepted.spelled tt))

-- ---- the types of the values

text_is : (text : List ℕ) → IsText (text_of text)
text_is text = by_test (is_text text) refl
  where
    printable : (bytes : List ℕ) → list_all (λ b. nat_le 32 b) bytes ≡ true → AllByRecursion (λ b. 32 ≤ b) bytes
    printable [] all = tt
    printable (b ∷ bytes) all = let both = and_parts (nat_le 32 b) (list_all (λ b. nat_le 32 b) bytes) all in (leb-true 32 b both.0, printable bytes both.1)

    by_test : (so : Bool) → is_text text ≡ so → IsText (cond so text [])
    by_test true is =
        let both = and_parts (nat_le (length text) 255) (list_all (λ b. nat_le 32 b) text) is in
        record { short = leb-true (length text) 255 both.0; printable = All-from_recursion (λ b. 32 ≤ b) text (printable text both.1) }
    by_test false is = record { short = omega arith; printable = All-from_recursion (λ b. 32 ≤ b) [] tt }

signed_bits : (minus : Bool) (n : ℕ) → fits minus n ≡ true → Has64Bits (signed minus n)
signed_bits minus zero is = omega arith
signed_bits true (suc n) is = let low : suc n ≤ 9223372036854775808 = leb-true (suc n) 9223372036854775808 is in omega (arith, low)
signed_bits false (suc n) is = let low : suc n ≤ 9223372036854775807 = leb-true (suc n) 9223372036854775807 is in omega (arith, low)

integer_typed : (minus : Bool) (n : ℕ) → fault_if (is_none (integer_of minus n)) fault.TooBig ≡ None → IsOfKind kinds.Int (integer_value (integer_of minus n))
integer_typed minus n fine = by_fit (fits minus n) refl fine
  where
    by_fit : (so : Bool) → fits minus n ≡ so → fault_if (is_none (cond {A = Option ℤ} so (Some (signed minus n)) None)) fault.TooBig ≡ None
        → IsOfKind kinds.Int (integer_value (cond {A = Option ℤ} so (Some (signed minus n)) None))
    by_fit true is fine = signed_bits minus n is
    by_fit false is fine = absurd cc

literal_typed : (bytes : List ℕ) (kind : Kind) (l : Literal) → literal_fault bytes l ≡ None → agree (literal_kind l) (Some kind) ≡ true
    → HasUtf8 (literal_value bytes l) → IsOfKind kind (literal_value bytes l)
literal_typed bytes kinds.Int (literals.Null span) fine agrees utf8 = tt
literal_typed bytes kinds.Str (literals.Null span) fine agrees utf8 = tt
literal_typed bytes kinds.Int (literals.Integer minus digits) fine agrees utf8 = integer_typed (is_some minus) (number_of (text_of_span bytes digits)) fine
literal_typed bytes kinds.Str (literals.Integer minus digits) fine agrees utf8 = absurd cc
literal_typed bytes kinds.Int (literals.Text span) fine agrees utf8 = absurd cc
literal_typed bytes kinds.Str (literals.Text span) fine agrees utf8 = (text_is (unquoted (text_of_span bytes span)), utf8)

never : (b : Bool) (x y : BindFault) → cond b (Some x) (Some y) ≡ None → ⊥
never true x y h = absurd cc
never false x y h = absurd cc

-- none of two refusals
neither : (one other : Option BindFault) → first_of one other ≡ None → (one ≡ None) × (other ≡ None)
neither None other h = (refl, h)
neither (Some x) None h = absurd cc
neither (Some x) (Some y) h = absurd (never (nat_le (rank x) (rank y)) x y h)

no_fault : (so : Bool) (x : BindFault) → fault_if (not so) x ≡ None → so ≡ true
no_fault true x h = refl
no_fault false x h = absurd cc

row_typed : (bytes : List ℕ) (columns : List Column) (values : List Literal) → values_fault bytes columns values ≡ None → AreUtf8 bytes values
    → IsRowOf columns (map (literal_value bytes) values)
row_typed bytes [] [] free utf8 = tt
row_typed bytes [] (l ∷ values) free utf8 = absurd cc
row_typed bytes (column ∷ columns) [] free utf8 = absurd cc
row_typed bytes (column ∷ columns) (l ∷ values) free utf8 =
    let both = neither (value_fault bytes column l) (values_fault bytes columns values) free in
    let parts = neither (literal_fault bytes l) (fault_if (not (agree (literal_kind l) (Some column.kind))) fault.WrongType) both.0 in (
      literal_typed bytes column.kind l parts.0 (no_fault (agree (literal_kind l) (Some column.kind)) fault.WrongType parts.1) utf8.0,
      row_typed bytes columns values both.1 utf8.1,
    )

rows_typed : (bytes : List ℕ) (table : TableDef) (rows : List (List Value)) → AllByRecursion (WasGiven bytes table) rows → RowsUtf8 rows
    → AllByRecursion (IsRowOf table.columns) rows
rows_typed bytes table [] given utf8 = tt
rows_typed bytes table (row ∷ rows) given utf8 =
    let first : WasGiven bytes table row = given.0 in (
      subst (IsRowOf table.columns) (sym first.is)
          (row_typed bytes table.columns first.values first.accepted (subst (λ (row : List Value). AllByRecursion HasUtf8 row) first.is utf8.0)),
      rows_typed bytes table rows given.1 utf8.1,
    )

tables_typed : (bytes : List ℕ) (room : ℕ) (catalog : List TableDef) (tables : List (List (List Value))) → AllZip (WereGiven bytes) catalog tables
    → AllZip (FitsRows room) (catalog_shapes catalog) tables → TablesUtf8 tables → AllZip (AreRowsOf room) catalog tables
tables_typed bytes room [] [] given fit utf8 = tt
tables_typed bytes room [] (rows ∷ tables) given fit utf8 = absurd given
tables_typed bytes room (table ∷ catalog) [] given fit utf8 = absurd given
tables_typed bytes room (table ∷ catalog) (rows ∷ tables) given fit utf8 = (
  record { typed = rows_typed bytes table rows (recursion_from_All (WasGiven bytes table) rows given.0) utf8.0; fit = fit.0 },
  tables_typed bytes room catalog tables given.1 fit.1 utf8.1,
)

-- the rows of a script that is accepted, whose values were given and which fit, can be written
pub accepted_rows : IsParsedSo → (bytes : List ℕ) (options : Options) (script : Script) (room : ℕ) → IsAccepted bytes options script
    → AllZip (WereGiven bytes) script.catalog script.rows → AllZip (FitsRows room) (catalog_shapes script.catalog) script.rows
    → AllZip (AreRowsOf room) script.catalog script.rows
accepted_rows parses bytes options script room accepted given fit =
    tables_typed bytes room script.catalog script.rows given fit (accepted_utf8 parses bytes options script accepted)
