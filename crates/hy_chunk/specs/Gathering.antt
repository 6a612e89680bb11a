-- What is gathered of what a viewer sees.
use Rattle.std.specs.Prelude.{◌≡◌, ◌<◌, ℕ, true, Contains, length, List, [], ◌∷◌, Option, None, Some, map, filter, if◌then◌else◌}
use Rattle.std.specs.List.{flat_map}
use Rattle.hy_value.specs.declared.Value.{Value}
use Rattle.hy_value.specs.declared.ColMask.{ColMask}
use Rattle.hy_bound.specs.Changes.{present}
use Rattle.hy_bound.specs.Condition.{Condition}
use Rattle.hy_bound.specs.Predicate.{column_of, truth_of}
use Rattle.hy_bound.specs.Projection.{projected}
use Rattle.hy_plan.specs.Reads.{is_read_of, by_key_of}
use Rattle.hy_undo.specs.Places.{Cell, Place, sees}
use Rattle.hy_stamp.specs.declared.Viewer.{Viewer}
use Rattle.std.specs.List.Sorted.{IsStrictlyIncreasing}
use Rattle.hy_chunk.specs.Fields.{nth}
use Rattle.hy_chunk.specs.declared.gathering.Keys.{Keys}

-- of a row that is there and selected, its values in a set of columns
abbrev pub kept_of : ColMask → Condition → Cell → List (List Value)
kept_of columns pred None = []
kept_of columns pred (Some row) = if truth_of pred row then projected columns row ∷ [] else []

-- of all cells, in order
abbrev pub gathered_of : ColMask → Condition → List Cell → List (List Value)
gathered_of columns pred cells = flat_map (kept_of columns pred) cells

-- of a row that is there and of which one of the conditions is true, its values in a set of columns
abbrev pub kept_by : ColMask → List Condition → Cell → List (List Value)
kept_by columns conditions None = []
kept_by columns conditions (Some row) = if is_read_of conditions row then projected columns row ∷ [] else []

-- of all cells, in order
abbrev pub gathered_by : ColMask → List Condition → List Cell → List (List Value)
gathered_by columns conditions cells = flat_map (kept_by columns conditions) cells

-- the conditions of which one is true of a row that is wanted: the condition alone, or with each of the keys
abbrev pub conditions_of : Condition → Option Keys → List Condition
conditions_of pred None = pred ∷ []
conditions_of pred (Some keys) = by_key_of pred keys.column keys.values.now

-- by one condition the rows are gathered that it selects
abbrev pub GathersOne : Type 0
GathersOne = (columns : ColMask) (pred : Condition) (cells : List Cell) → gathered_by columns (pred ∷ []) cells ≡ gathered_of columns pred cells

-- by any, those rows of which one of them is true
abbrev pub GathersRead : Type 0
GathersRead = (columns : ColMask) (conditions : List Condition) (cells : List Cell)
    → gathered_by columns conditions cells ≡ map (projected columns) (filter (is_read_of conditions) (present cells))

-- a condition is true only of rows with this value in a column
abbrev pub Asks : Condition → ℕ → Value → Type 0
Asks pred column value = (row : List Value) → truth_of pred row ≡ true → column_of row column ≡ value

-- one of some conditions is true only of rows with one of these values in a column
abbrev pub AsksOneOf : List Condition → ℕ → List Value → Type 0
AsksOneOf conditions column values = (row : List Value) → is_read_of conditions row ≡ true → Contains values (column_of row column)

-- these positions, ascending, are all at which something is kept, whoever looks
pub record AreEnough (columns : ColMask) (conditions : List Condition) (places : List Place) (found : List ℕ) : Type 0 where
  pub ascends : IsStrictlyIncreasing found
  pub within : (place : ℕ) → Contains found place → place < length places
  pub all : (viewer : Viewer) (place : ℕ) → place < length places → (Contains found place → ⊥)
      → kept_by columns conditions (sees viewer (nth places place)) ≡ []
