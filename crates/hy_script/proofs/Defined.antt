-- A table that is taken fits.
use Rattle.std.proofs.Common.{◌≡◌, ℕ, suc, ◌+◌, ◌<◌, ◌≤◌, Bool, true, false, cond, List, [], ◌∷◌, Option, Some, length, arith}
use Rattle.std.proofs.lemmas.List.{length-map}
use Rattle.hy_token.specs.declared.Span.{Span}
use Rattle.hy_ast.specs.declared.ColumnDef.{ColumnDef}
use Rattle.hy_parse.specs.Grammar.{HasItem}
use Rattle.hy_bound.specs.Fits.{FitsShape}
use Rattle.hy_bind.specs.Shapes.{defined_shape}
use Rattle.hy_script.specs.Growing.{column_def, key_from, table_def}

key_step : (is_key : Bool) (number key many : ℕ) (rest : Option ℕ) → cond is_key (Some number) rest ≡ Some key → (rest ≡ Some key → key < suc number + many) → key < number + suc many
key_step true number key many rest h more = let same : number ≡ key = cc in omega (arith, same)
key_step false number key many rest h more = let below = more h in omega (arith, below)

-- the key is one of the columns
key_below : (number key : ℕ) (columns : List ColumnDef) → key_from number columns ≡ Some key → key < number + length columns
key_below number key [] h = absurd cc
key_below number key (column ∷ columns) h = key_step column.key number key (length columns) (key_from (suc number) columns) h (key_below (suc number) key columns)

some : (columns : List ColumnDef) → HasItem columns → 1 ≤ length columns
some [] h = absurd h
some (column ∷ columns) h = omega arith

pub table_fits : (script : List ℕ) (table : Span) (columns : List ColumnDef) → HasItem columns → length columns ≤ 32 → FitsShape (defined_shape (table_def script table columns))
table_fits script table columns item few =
    let many = length-map columns (column_def script) in
    let one = some columns item in
    record {
      some = omega (arith, many, one);
      few = omega (arith, many, few);
      key = λ key is. let below = key_below 0 key columns is in omega (arith, below, many);
    }
