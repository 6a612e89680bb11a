-- Rows that are taken from places of others.
use Rattle.std.specs.Prelude.{ℕ, List, [], map, slice_index_or}
use Rattle.hy_value.specs.declared.Value.{Value}
use Rattle.hy_bound.specs.Predicate.{column_of}

-- of the row at a place the values in these columns, in this order
abbrev pub row_picked : List (List Value) → List ℕ → ℕ → List Value
row_picked rows columns place = map (column_of (slice_index_or rows place [])) columns

-- of the rows at places the values in a column
abbrev pub values_picked : List (List Value) → List ℕ → ℕ → List Value
values_picked rows places column = map (λ place. column_of (slice_index_or rows place []) column) places
