-- What is kept of rows.
use Rattle.std.specs.Prelude.{ℕ, suc, zero, List, [], ◌∷◌, if◌then◌else◌}
use Rattle.hy_value.specs.declared.Value.{Value}
use Rattle.hy_value.specs.declared.Value.TheVariants.{Null}
use Rattle.hy_value.specs.declared.ColMask.{ColMask}
use Rattle.hy_value.specs.Columns.{has_column}

-- a row whose first value is that of this column, with NULL in each column outside a set
abbrev pub masked_from : ColMask → ℕ → List Value → List Value
masked_from mask column [] = []
masked_from mask column (value ∷ row) = (if has_column mask column then value else Null) ∷ masked_from mask (suc column) row

-- a row with NULL in each column outside a set
abbrev pub masked : ColMask → List Value → List Value
masked mask row = masked_from mask 0 row

-- the values of a row that are in columns of a set, the first value being that of this column
abbrev pub projected_from : ColMask → ℕ → List Value → List Value
projected_from mask column [] = []
projected_from mask column (value ∷ row) =
    if has_column mask column then value ∷ projected_from mask (suc column) row else projected_from mask (suc column) row

-- the values of a row that are in columns of a set, in column order
abbrev pub projected : ColMask → List Value → List Value
projected mask row = projected_from mask 0 row

-- a row of so many columns, from this one on: the columns of a set have these values in their order, the
-- others NULL
abbrev pub spread_from : ColMask → ℕ → ℕ → List Value → List Value
spread_from mask column zero values = []
spread_from mask column (suc width) [] = Null ∷ spread_from mask (suc column) width []
spread_from mask column (suc width) (value ∷ values) =
    if has_column mask column then value ∷ spread_from mask (suc column) width values
    else Null ∷ spread_from mask (suc column) width (value ∷ values)

-- a row of so many columns, given by its values in those of a set
abbrev pub spread : ColMask → ℕ → List Value → List Value
spread mask width values = spread_from mask 0 width values
