-- A list of lists whose last one is empty and serves as a spare.
use Rattle.std.specs.Prelude.{◌≡◌, ℕ, ◌+◌, List, [], length, slice_index_or}

pub record HasSpare {X : Type 0} (positions : ℕ) (lists : List (List X)) : Type 0 where
  pub length_is : length lists ≡ positions + 1
  pub is_empty : slice_index_or lists positions [] ≡ []
