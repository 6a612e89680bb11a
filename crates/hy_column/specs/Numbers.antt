-- Numbers and NULL, as numbers with a bit beside each.
use Rattle.std.specs.Prelude.{◌≡◌, ℤ, List, [], ◌∷◌, Bool, true, false, Option, None, Some, length, if◌then◌else◌}

-- the numbers, with NULL where its bit is set
abbrev pub numbers : List ℤ → List Bool → List (Option ℤ)
numbers [] nulls = []
numbers (number ∷ values) [] = []
numbers (number ∷ values) (null ∷ nulls) = (if null then None else Some number) ∷ numbers values nulls

abbrev pub is_null : Option ℤ → Bool
is_null None = true
is_null (Some number) = false

-- there are as many bits as numbers
pub record AreAsLong (values : List ℤ) (nulls : List Bool) : Type 0 where
  pub same : length nulls ≡ length values
