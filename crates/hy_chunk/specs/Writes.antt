-- What an UPDATE or a DELETE asks, what it makes of a row, and what it notes.
use Rattle.std.specs.Prelude.{◌≡◌, ◌≢◌, ℕ, suc, ◌<◌, List, [], ◌∷◌, Option, None, Some, Result, Ok, Err, length, slice_index_or, slice_set, count_by, is_some}
use Rattle.std.specs.List.{AllByRecursion}
use Rattle.hy_value.specs.declared.Value.{Value}
use Rattle.hy_value.specs.declared.Kind.{Kind}
use Rattle.hy_value.specs.declared.Kind.TheVariants.{Int}
use Rattle.hy_stamp.specs.declared.Viewer.{Viewer}
use Rattle.hy_bound.specs.declared.Assign.{Assign}
use Rattle.hy_bound.specs.declared.Range.{Range}
use Rattle.hy_chunk.specs.declared.writes.RowWrite.{RowWrite}
use Rattle.hy_chunk.specs.declared.writes.RowWrite.TheVariants.{Set, Delete}
use Rattle.hy_bound.specs.Assignment.{value_of}
use Rattle.hy_value.specs.declared.change.Change.{Change}
use Rattle.hy_column.specs.Cells.{FitsKind}
use Rattle.hy_notes.specs.Notes.{with_note}
use Rattle.hy_undo.specs.declared.refusal.Refusal.{Refusal}
use Rattle.hy_stamp.specs.declared.Label.{Label}
use Rattle.hy_bound.specs.Condition.{Condition}
use Rattle.hy_chain.specs.Chains.{rival}
use Rattle.hy_undo.specs.Places.{Place, Cell, sees}
use Rattle.hy_undo.specs.Chunks.{Written}
use Rattle.hy_undo.specs.Sweeps.{verdict, AllWritten}
use Rattle.hy_chunk.specs.Sound.{FitsRow}

-- the assignments of an UPDATE
abbrev pub sets_of : RowWrite → Option (List Assign)
sets_of (Set sets) = Some sets.now
sets_of Delete = None

-- an assignment sets a column other than the key, to a value of the column's type, or NULL, for each row that fits
pub record FitsSet (kinds : List Kind) (key : Option ℕ) (assign : Assign) : Type 0 where
  pub column : assign.column < length kinds
  pub typed : (row : List Value) (value : Value) → FitsRow kinds row → value_of assign.value row ≡ Ok value
      → FitsKind (slice_index_or kinds assign.column Int) value
  pub spares_key : key ≢ Some assign.column

abbrev pub FitsSets : List Kind → Option ℕ → List Assign → Type 0
FitsSets kinds key sets = AllByRecursion (FitsSet kinds key) sets

abbrev pub FitsWrite : List Kind → Option ℕ → RowWrite → Type 0
FitsWrite kinds key (Set sets) = FitsSets kinds key sets.now
FitsWrite kinds key Delete = Unit {0}

-- each assignment sets one of so many columns
abbrev pub SetColumns : ℕ → RowWrite → Type 0
SetColumns width (Set sets) = AllByRecursion (λ assign. assign.column < width) sets.now
SetColumns width Delete = Unit {0}

-- a row with a value in a column, where it is in range
abbrev pub with_value : List Value → ℕ → Result Value Range → List Value
with_value row column (Ok value) = slice_set row column value
with_value row column (Err range) = row

-- why something is refused, if it is
abbrev pub refusal_in : {A : Type 0} → Result A Refusal → Option Refusal
refusal_in (Ok x) = None
refusal_in (Err refusal) = Some refusal

-- notes with the cells that are written at positions from this one on
abbrev pub all_noted : ℕ → ℕ → Viewer → List (Option Cell) → List Place → List Change → List Change
all_noted table pos viewer [] places notes = notes
all_noted table pos viewer (cell ∷ cells) [] notes = notes
all_noted table pos viewer (None ∷ cells) (place ∷ places) notes = all_noted table (suc pos) viewer cells places notes
all_noted table pos viewer (Some cell ∷ cells) (place ∷ places) notes =
    all_noted table (suc pos) viewer cells places (with_note (record { table = table; pos = pos; before = sees viewer place; after = cell }) notes)

-- so are these, or they are as they were where a position refuses that
abbrev pub notes_with : ℕ → ℕ → Viewer → Result (List (Option Cell)) Refusal → List Place → List Change → List Change
notes_with table pos viewer (Err refusal) places notes = notes
notes_with table pos viewer (Ok cells) places notes = all_noted table pos viewer cells places notes

-- what is judged at a position
abbrev pub judged_at : Option (List Assign) → Condition → Viewer → ℕ → Place → Result (Option Cell) Refusal
judged_at sets pred viewer pos place = verdict sets pred pos (rival viewer place.chain) (sees viewer place)

-- a position is written as it was judged
abbrev pub WrittenAs : Viewer → Label → Result (Option Cell) Refusal → Place → Place → Type 0
WrittenAs viewer label (Err refusal) old new = ⊥
WrittenAs viewer label (Ok None) old new = new ≡ old
WrittenAs viewer label (Ok (Some cell)) old new = Written viewer label cell old new

-- an UPDATE or a DELETE is done: each position with a new cell is written and noted, and so many are
pub record AreDone (viewer : Viewer) (label : Label) (table first : ℕ) (cells : List (Option Cell)) (olds news : List Place)
    (notes now : List Change) (count : ℕ) : Type 0 where
  pub written : AllWritten viewer label cells olds news
  pub noted : now ≡ all_noted table first viewer cells olds notes
  pub counted : count ≡ count_by is_some cells

abbrev pub IsDone : Viewer → Label → ℕ → ℕ → Result (List (Option Cell)) Refusal → List Place → List Place → List Change → List Change → ℕ → Type 0
IsDone viewer label table first (Err refusal) olds news notes now count = ⊥
IsDone viewer label table first (Ok cells) olds news notes now count = AreDone viewer label table first cells olds news notes now count
