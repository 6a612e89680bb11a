-- Masks: at which positions a condition may be true of the row in place, or is.
use Rattle.std.specs.Prelude.{◌≡◌, ℕ, ◌<◌, List, Bool, true, false, Contains, slice_index_or, length}
use Rattle.std.specs.List.{list_all}
use Rattle.hy_bound.specs.Condition.{Condition}
use Rattle.hy_bound.specs.Predicate.{truth_of}
use Rattle.hy_undo.specs.Places.{Place}
use Rattle.hy_chunk.specs.Fields.{nth}

-- one of some conditions is not true of a row
pub record BarsRow (conditions : List Condition) (place : Place) : Type 0 where
  pub pred : Condition
  pub among : Contains conditions pred
  pub barred : truth_of pred place.version.row ≡ false

-- a bit for each position; where it is clear, one of these conditions is not true of the row in place
pub record Admits (conditions : List Condition) (places : List Place) (mask : List Bool) : Type 0 where
  pub many : length mask ≡ length places
  pub clear : (place : ℕ) → place < length places → slice_index_or mask place false ≡ false → BarsRow conditions (nth places place)

-- where a bit is set, all of these conditions are true of the row in place
abbrev pub Confirms : List Condition → List Place → List Bool → Type 0
Confirms conditions places mask =
    (place : ℕ) → place < length places → slice_index_or mask place false ≡ true
    → list_all (λ pred. truth_of pred (nth places place).version.row) conditions ≡ true
