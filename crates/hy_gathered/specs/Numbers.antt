-- Sums of numbers.
use Rattle.std.specs.Prelude.{List, [], ◌∷◌, ℤ, pos, ◌+ℤ◌}

-- the sum of numbers
abbrev pub total : List ℤ → ℤ
total [] = pos 0
total (number ∷ numbers) = number +ℤ total numbers
