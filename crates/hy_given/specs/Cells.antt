-- What a test's cell is as a value.
use Rattle.std.specs.Prelude.{ℤ, Option, None, Some}
use Rattle.hy_value.specs.declared.Value.{Value}
use Rattle.hy_value.specs.declared.Value.TheVariants.{Null, Int}

-- a number, or NULL where there is none
abbrev pub cell_value : Option ℤ → Value
cell_value None = Null
cell_value (Some number) = Int number
