-- Numbers and NULLs of a column.
use Rattle.std.specs.Prelude.{List, [], ◌∷◌, Bool, true, false, ℤ}
use Rattle.hy_value.specs.declared.Value.{Value}
use Rattle.hy_value.specs.declared.Value.TheVariants.{Null, Int}

-- a number, or NULL in its place
abbrev pub number_or_null : Bool → ℤ → Value
number_or_null true number = Null
number_or_null false number = Int number

-- numbers as values, some of them NULL: those of which that is told
abbrev pub numbered : List ℤ → List Bool → List Value
numbered [] nulls = []
numbered (number ∷ numbers) [] = Int number ∷ numbered numbers []
numbered (number ∷ numbers) (is_null ∷ nulls) = number_or_null is_null number ∷ numbered numbers nulls
