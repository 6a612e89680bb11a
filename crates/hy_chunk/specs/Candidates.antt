-- The positions at which a condition may select a row, whoever looks: pruning changes nothing of that.
use Rattle.std.specs.Prelude.{◌≡◌, ◌⊎◌, ℕ, ◌<◌, List, [], true, false, Option, Some, Contains, length}
use Rattle.std.specs.List.Sorted.{IsStrictlyIncreasing}
use Rattle.hy_value.specs.declared.Value.{Value}
use Rattle.hy_bound.specs.Condition.{Condition}
use Rattle.hy_bound.specs.Predicate.{column_of, truth_at}
use Rattle.hy_undo.specs.Places.{Place, in_place}
use Rattle.hy_chunk.specs.Fields.{nth}
use Rattle.hy_chunk.specs.Gathering.{Asks}

-- no record is there, and the condition does not select what is in place
pub record IsPlain (pred : Condition) (place : Place) : Type 0 where
  pub chain : place.chain ≡ []
  pub barred : truth_at pred (in_place place) ≡ false

-- the condition asks a value of the key that the position, where it is used, does not have in place
pub record HasOtherKey (pred : Condition) (key : Option ℕ) (place : Place) : Type 0 where
  pub column : ℕ
  pub value : Value
  pub is_key : key ≡ Some column
  pub asks : Asks pred column value
  pub other : place.used ≡ true → column_of place.version.row column ≡ value → ⊥

-- no row is selected there, whoever looks
abbrev pub IsBarred : Condition → Option ℕ → Place → Type 0
IsBarred pred key place = IsPlain pred place ⊎ HasOtherKey pred key place

-- at all positions but these, which ascend, no row is selected, whoever looks
pub record AreCandidates (pred : Condition) (key : Option ℕ) (places : List Place) (found : List ℕ) : Type 0 where
  pub ascends : IsStrictlyIncreasing found
  pub within : (place : ℕ) → Contains found place → place < length places
  pub others : (place : ℕ) → place < length places → (Contains found place → ⊥) → IsBarred pred key (nth places place)
