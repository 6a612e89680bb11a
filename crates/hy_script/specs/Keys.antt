-- The keys of rows, of which the numbers are kept apart.
use Rattle.std.specs.Prelude.{ℤ, Bool, true, false, List, ◌++◌, map}
use Rattle.std.specs.List.{filter}
use Rattle.hy_value.specs.declared.Value.{Value}
use Rattle.hy_value.specs.declared.Value.TheVariants.{Null, Int, Text}
use Rattle.hy_value.specs.Sorted.{distinct}

-- a value that is no number
abbrev pub is_other : Value → Bool
is_other Null = true
is_other (Int number) = false
is_other (Text text) = true

-- the values that are these numbers or one of these others, ascending
abbrev pub keys_of : List ℤ → List Value → List Value
keys_of numbers others = distinct (map Int numbers ++ filter is_other others)
