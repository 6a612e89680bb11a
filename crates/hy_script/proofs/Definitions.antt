-- Tables and first rows that are taken fit.
use Rattle.std.specs.Prelude.{◌*◌, slice_index_or, slice_set}
use Rattle.std.specs.Cmp.{IsTotalOrder}
use Rattle.std.specs.List.{All, AllZip}
use Rattle.std.specs.Option.{option_map_or}
use Rattle.std.proofs.Common.{◌≡◌, ℕ, ◌<◌, ◌≤◌, false, List, [], ◌∷◌, ◌++◌, Option, None, Some, length, map, sym, subst, arith}
use Rattle.std.proofs.lemmas.List.{length-map, length_push, map_push}
use Rattle.std.proofs.lemmas.List.Elements.{All-nil, All-push, All-weaker}
use Rattle.hy_value.specs.declared.Value.{Value}
use Rattle.hy_value.specs.Order.{value_cmp}
use Rattle.hy_schema.specs.declared.TableDef.{TableDef}
use Rattle.hy_schema.specs.Names.{table_number}
use Rattle.hy_token.specs.declared.Span.{Span}
use Rattle.hy_ast.specs.declared.ColumnDef.{ColumnDef}
use Rattle.hy_ast.specs.declared.Literal.{Literal}
use Rattle.hy_ast.specs.Trees.{Statement}
use Rattle.hy_ast.specs.Trees as tree
use Rattle.hy_parse.specs.Grammar.{HasItem}
use Rattle.hy_bound.specs.declared.Shape.{Shape}
use Rattle.hy_bound.specs.Agreement.{HasItsKey}
use Rattle.hy_bound.specs.Records.{no_shape, shape_of}
use Rattle.hy_bound.specs.Fits.{FitsShape, FitsRows, FitsInsert, FitsStatement}
use Rattle.hy_bind.specs.Literals.{text_of_span, literal_value}
use Rattle.hy_bind.specs.Shapes.{defined_shape, catalog_shapes}
use Rattle.hy_bind.specs.Statements.{HasNames, and_number, numbers_or_none, in_scope, fault_of_numbered, bound_in, bind_fault, bound_of}
use Rattle.hy_script.specs.declared.Options.{Options}
use Rattle.hy_script.specs.declared.sofar.SoFar.{SoFar}
use Rattle.hy_script.specs.declared.stocks.Stock.{Stock}
use Rattle.hy_script.specs.Stocks.{key_there, no_rows, with_row}
use Rattle.hy_script.specs.Growing.{table_def, with_table, with_first_row}
use Rattle.hy_script.specs.Refusals.{create_code, first_row_code, stock_at}
use Rattle.hy_script.specs.Definitions.{IsStock, FitDefinitions, AreDefined}
use Rattle.hy_script.proofs.Accepted.{table_taken, row_taken}
use Rattle.hy_script.proofs.Defined.{table_fits}
use Rattle.hy_script.proofs.FirstRows.{none_stocked, row_stocked}
use Rattle.hy_script.proofs.Zips.{zip_push, zip_at, zip_set, zip_map, zip_weaker}
use Rattle.hy_limits.specs.declared.TheConstants.{MOST_TABLES}

-- what the law on binding says
abbrev pub Binding : Type 0
Binding = (script : List ℕ) (catalog : List TableDef) (s : Statement) → HasNames s → All HasItsKey (catalog_shapes catalog) → bind_fault script catalog s ≡ None
    → FitsStatement (catalog_shapes catalog) (bound_of script catalog s)

abbrev pub room : Options → ℕ
room options = options.chunks * options.rows

pub none_defined : (room : ℕ) → FitDefinitions room [] []
none_defined room = record { few = omega arith; tables = All-nil FitsShape; stocks = tt }

-- the tables have their keys
pub keys_there : (room : ℕ) (shapes : List Shape) (stocks : List Stock) → FitDefinitions room shapes stocks → All HasItsKey shapes
keys_there room shapes stocks defined = All-weaker FitsShape HasItsKey (λ shape fits. fits.key) shapes defined.tables

-- the rows beside no keys
pub rows_fit : (room : ℕ) (shapes : List Shape) (stocks : List Stock) → FitDefinitions room shapes stocks → AllZip (FitsRows room) shapes (map (λ stock. stock.rows) stocks)
rows_fit room shapes stocks defined =
    zip_map (FitsRows room) (λ (stock : Stock). stock.rows) shapes stocks
    (zip_weaker (IsStock room) (λ shape (stock : Stock). FitsRows room shape stock.rows) shapes stocks (λ shape stock is. is.rows) defined.stocks)

-- ---- CREATE TABLE

pub table_more : (room : ℕ) (shapes : List Shape) (stocks : List Stock) (def : TableDef) → length shapes < MOST_TABLES → FitsShape (defined_shape def) → FitDefinitions room shapes stocks
    → FitDefinitions room (shapes ++ defined_shape def ∷ []) (stocks ++ no_rows def.key ∷ [])
table_more room shapes stocks def few fits defined =
    let shape : Shape = defined_shape def in
    let many = length_push shapes shape in
    record {
      few = omega (arith, few, many);
      tables = All-push FitsShape shapes shape defined.tables fits;
      stocks = zip_push (IsStock room) shapes stocks shape (no_rows def.key) defined.stocks (none_stocked room shape);
    }

-- a table that is taken fits, and leaves room for it
pub record IsTable (script : List ℕ) (sofar : SoFar) (table : Span) (columns : List ColumnDef) : Type 0 where
  pub few : length (catalog_shapes sofar.catalog) < MOST_TABLES
  pub fits : FitsShape (defined_shape (table_def script table columns))

pub is_table : (script : List ℕ) (sofar : SoFar) (table : Span) (columns : List ColumnDef) → HasItem columns → create_code script sofar table columns ≡ None → IsTable script sofar table columns
is_table script sofar table columns item h =
    let taken = table_taken script sofar table columns h in
    let free : length sofar.catalog < MOST_TABLES = taken.0 in
    let many = length-map sofar.catalog defined_shape in
    record { few = omega (arith, free, many); fits = table_fits script table columns item taken.1 }

pub table_defined : (script : List ℕ) (options : Options) (sofar : SoFar) (table : Span) (columns : List ColumnDef) → HasItem columns → create_code script sofar table columns ≡ None → AreDefined options sofar
    → AreDefined options (with_table sofar (table_def script table columns))
table_defined script options sofar table columns item h defined =
    let def : TableDef = table_def script table columns in
    let is = is_table script sofar table columns item h in
    subst (λ (shapes : List Shape). FitDefinitions (room options) shapes (sofar.stocks ++ no_rows def.key ∷ [])) (sym (map_push defined_shape sofar.catalog def))
    (table_more (room options) (catalog_shapes sofar.catalog) sofar.stocks def is.few is.fits defined)

-- ---- a first row

abbrev InScope : List ℕ → List TableDef → Option ℕ → Statement → Type 0
InScope script catalog number s = FitsStatement (catalog_shapes catalog) (bound_in (in_scope script catalog (numbers_or_none (and_number number (Some [])))) s)

stocks_kept : (room : ℕ) (shapes : List Shape) (stocks : List Stock) (n : ℕ) (row : List Value) → IsTotalOrder value_cmp → n < length shapes → FitsInsert (shape_of shapes n) row
    → length (slice_index_or stocks n (no_rows None)).rows < room → key_there (slice_index_or stocks n (no_rows None)) row ≡ false
    → AllZip (IsStock room) shapes stocks → AllZip (IsStock room) shapes (slice_set stocks n (with_row (slice_index_or stocks n (no_rows None)) row))
stocks_kept room shapes stocks n row total there fits free own all =
    zip_set (IsStock room) shapes stocks n no_shape _ all
    (row_stocked total room (shape_of shapes n) (slice_index_or stocks n (no_rows None)) row free own fits (zip_at (IsStock room) shapes stocks n no_shape (no_rows None) all there))

numbered_kept : (script : List ℕ) (options : Options) (sofar : SoFar) (table : Span) (values : List Literal) (number : Option ℕ) → IsTotalOrder value_cmp
    → fault_of_numbered script sofar.catalog (and_number number (Some [])) (tree.Insert table values) ≡ None → InScope script sofar.catalog number (tree.Insert table values)
    → length (stock_at number sofar.stocks).rows < room options → key_there (stock_at number sofar.stocks) (map (literal_value script) values) ≡ false → AreDefined options sofar
    → AllZip (IsStock (room options)) (catalog_shapes sofar.catalog) (slice_set sofar.stocks (option_map_or (λ n. n) number 0) (with_row (stock_at number sofar.stocks) (map (literal_value script) values)))
numbered_kept script options sofar table values None total h fits free own defined = absurd cc
numbered_kept script options sofar table values (Some n) total h fits free own defined =
    stocks_kept (room options) (catalog_shapes sofar.catalog) sofar.stocks n (map (literal_value script) values) total fits.0 fits.1 free own defined.stocks

pub row_defined : IsTotalOrder value_cmp → Binding → (script : List ℕ) (options : Options) (sofar : SoFar) (table : Span) (values : List Literal)
    → first_row_code script options sofar (tree.Insert table values) table values ≡ None → AreDefined options sofar → AreDefined options (with_first_row script sofar table values)
row_defined order binding script options sofar table values h defined =
    let taken = row_taken script options sofar (tree.Insert table values) table values h in
    let keys = keys_there (room options) (catalog_shapes sofar.catalog) sofar.stocks defined in
    let fits = binding script sofar.catalog (tree.Insert table values) tt keys taken.bound in
    record {
      few = defined.few;
      tables = defined.tables;
      stocks = numbered_kept script options sofar table values (table_number sofar.catalog (text_of_span script table)) order taken.bound fits taken.room taken.own_key defined;
    }
