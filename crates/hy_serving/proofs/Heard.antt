-- First rows that lines gave: a table more has none, and a line that gives a row more is not refused for its table's columns.
use Rattle.std.specs.List.{All, AllZip}
use Rattle.std.specs.Option.{option_map, option_map_or}
use Rattle.std.specs.Prelude.{◌*◌, nat_le, slice_index_or, slice_set}
use Rattle.std.proofs.Common.{◌≡◌, ℕ, zero, suc, Bool, true, false, cond, List, [], ◌∷◌, ◌++◌, Option, Some, None, length, map, refl}
use Rattle.std.proofs.lemmas.List.Elements.{All-nil, All-push}
use Rattle.hy_value.specs.declared.Value.{Value}
use Rattle.hy_token.specs.declared.Span.{Span}
use Rattle.hy_ast.specs.declared.Literal.{Literal}
use Rattle.hy_ast.specs.Trees as tree
use Rattle.hy_schema.specs.declared.TableDef.{TableDef}
use Rattle.hy_schema.specs.Names.{table_at, table_number}
use Rattle.hy_bind.specs.declared.refusals.BindFault.{BindFault}
use Rattle.hy_bind.specs.Literals.{text_of_span, literal_value}
use Rattle.hy_bind.specs.Refusals.{first_of}
use Rattle.hy_bind.specs.Refusals as binding
use Rattle.hy_bind.specs.Statements.{and_number, bind_fault, columns_in, fault_of_numbered, key_fault, key_in, values_fault}
use Rattle.hy_script.specs.declared.Options.{Options}
use Rattle.hy_script.specs.declared.codes.Code.{Code}
use Rattle.hy_script.specs.declared.codes.Code.TheVariants as code
use Rattle.hy_script.specs.declared.sofar.SoFar.{SoFar}
use Rattle.hy_script.specs.declared.stocks.Stock.{Stock}
use Rattle.hy_script.specs.Binding.{WasGiven}
use Rattle.hy_script.specs.Codes.{rank, first_of_two, code_if_so, code_of}
use Rattle.hy_script.specs.Growing.{with_first_row}
use Rattle.hy_script.specs.Refusals.{bind_code, first_row_code, stock_at, stock_of}
use Rattle.hy_script.specs.Stocks.{key_there, no_rows, with_row}
use Rattle.hy_serving.specs.Fitting.{WereHeard}

-- ---- of two causes, where neither is told, the first is not there

never : {A : Type 0} (b : Bool) (one other : A) → cond b (Some one) (Some other) ≡ None → ⊥
never true one other h = absurd cc
never false one other h = absurd cc

no_code : (one other : Option Code) → first_of_two one other ≡ None → one ≡ None
no_code None other h = refl
no_code (Some cause) None h = absurd cc
no_code (Some cause) (Some more) h = absurd (never (nat_le (rank cause) (rank more)) cause more h)

no_fault : (one other : Option BindFault) → first_of one other ≡ None → one ≡ None
no_fault None other h = refl
no_fault (Some fault) None h = absurd cc
no_fault (Some fault) (Some more) h = absurd (never (nat_le (binding.rank fault) (binding.rank more)) fault more h)

without_fault : (found : Option BindFault) → option_map code_of found ≡ None → found ≡ None
without_fault None h = refl
without_fault (Some fault) h = absurd cc

-- ---- rows

abbrev rows_in : List Stock → List (List (List Value))
rows_in stocks = map (λ (stock : Stock). stock.rows) stocks

-- a row that a line gave
abbrev WasHeard : TableDef → List Value → Type 0
WasHeard def row = (line : List ℕ) × WasGiven line def row

-- a table more, which has no rows
pub table_heard : (catalog : List TableDef) (stocks : List Stock) (def : TableDef) (key : Option ℕ) → AllZip WereHeard catalog (rows_in stocks)
    → AllZip WereHeard (catalog ++ def ∷ []) (rows_in (stocks ++ no_rows key ∷ []))
table_heard [] [] def key all = (All-nil (WasHeard def), tt)
table_heard [] (stock ∷ stocks) def key all = absurd all
table_heard (first ∷ catalog) [] def key all = absurd all
table_heard (first ∷ catalog) (stock ∷ stocks) def key all = (all.0, table_heard catalog stocks def key all.1)

-- a row more of the table of a number, whose columns take its values
row_more : (line : List ℕ) (catalog : List TableDef) (stocks : List Stock) (n : ℕ) (values : List Literal)
    → values_fault line (columns_in (table_at catalog n)) values ≡ None → AllZip WereHeard catalog (rows_in stocks)
    → AllZip WereHeard catalog (rows_in (slice_set stocks n (with_row (slice_index_or stocks n (no_rows None)) (map (literal_value line) values))))
row_more line [] [] n values h all = tt
row_more line [] (stock ∷ stocks) n values h all = absurd all
row_more line (def ∷ catalog) [] n values h all = absurd all
row_more line (def ∷ catalog) (stock ∷ stocks) zero values h all = (
  All-push (WasHeard def) stock.rows (map (literal_value line) values) all.0 (line, record { values = values; accepted = h; is = refl }),
  all.1,
)
row_more line (def ∷ catalog) (stock ∷ stocks) (suc n) values h all = (all.0, row_more line catalog stocks n values h all.1)

numbered_heard : (line : List ℕ) (sofar : SoFar) (table : Span) (values : List Literal) (number : Option ℕ)
    → fault_of_numbered line sofar.catalog (and_number number (Some [])) (tree.Insert table values) ≡ None
    → AllZip WereHeard sofar.catalog (rows_in sofar.stocks)
    → AllZip WereHeard sofar.catalog
    (rows_in (slice_set sofar.stocks (option_map_or (λ n. n) number 0) (with_row (stock_at number sofar.stocks) (map (literal_value line) values))))
numbered_heard line sofar table values None h all = absurd cc
numbered_heard line sofar table values (Some n) h all =
    let found = table_at sofar.catalog n in
    row_more line sofar.catalog sofar.stocks n values (no_fault (values_fault line (columns_in found) values) (key_fault (key_in found) values) h) all

-- a first row that is not refused
pub row_heard : (line : List ℕ) (options : Options) (sofar : SoFar) (table : Span) (values : List Literal)
    → first_row_code line options sofar (tree.Insert table values) table values ≡ None
    → AllZip WereHeard sofar.catalog (rows_in sofar.stocks) → AllZip WereHeard sofar.catalog (rows_in (with_first_row line sofar table values).stocks)
row_heard line options sofar table values h all =
    let stock : Stock = stock_of line sofar table in
    let full = code_if_so (nat_le (options.chunks * options.rows) (length stock.rows)) code.Limit in
    let there = code_if_so (key_there stock (map (literal_value line) values)) code.KeyTwice in
    let insert = tree.Insert table values in
    let taken = without_fault (bind_fault line sofar.catalog insert) (no_code (bind_code line sofar.catalog insert) (first_of_two full there) h) in
    numbered_heard line sofar table values (table_number sofar.catalog (text_of_span line table)) taken all
