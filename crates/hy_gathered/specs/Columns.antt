-- Where the values of a table's column stand among those that are gathered of its rows.
use Rattle.std.specs.Prelude.{ℕ, zero, suc, List, Option, None, Some, ◌&&◌, nat_lt, if◌then◌else◌}
use Rattle.hy_value.specs.declared.ColMask.{ColMask}
use Rattle.hy_value.specs.declared.Value.{Value}
use Rattle.hy_value.specs.declared.Value.TheVariants.{Null}
use Rattle.hy_value.specs.Columns.{has_column}
use Rattle.hy_bound.specs.Predicate.{column_of}

-- how many of so many columns, from this one on, a set has
abbrev pub columns_from : ColMask → ℕ → ℕ → ℕ
columns_from mask column zero = 0
columns_from mask column (suc width) =
    if has_column mask column then suc (columns_from mask (suc column) width) else columns_from mask (suc column) width

-- how many of the first columns
abbrev pub columns_below : ColMask → ℕ → ℕ
columns_below mask width = columns_from mask 0 width

-- where the values of a column of so many stand among those of a set, if it is one of the set
abbrev pub place_of : ColMask → ℕ → ℕ → Option ℕ
place_of mask width column = if nat_lt column width && has_column mask column then Some (columns_below mask column) else None

-- the value at a place of a row; without a place NULL
abbrev pub value_at : Option ℕ → List Value → Value
value_at None row = Null
value_at (Some place) row = column_of row place
