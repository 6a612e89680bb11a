-- What an UPDATE or a DELETE does at each position of a chunk, or why it is refused.
use Rattle.std.specs.Prelude.{◌≡◌, ℕ, suc, List, [], ◌∷◌, Option, None, Some, Result, Ok, Err, if◌then◌else◌}
use Rattle.hy_value.specs.declared.Value.{Value}
use Rattle.hy_stamp.specs.declared.Label.{Label}
use Rattle.hy_stamp.specs.declared.Viewer.{Viewer}
use Rattle.hy_chain.specs.Chains.{rival}
use Rattle.hy_bound.specs.Condition.{Condition}
use Rattle.hy_bound.specs.declared.Assign.{Assign}
use Rattle.hy_bound.specs.Predicate.{truth_of}
use Rattle.hy_bound.specs.Assignment.{assigned}
use Rattle.hy_undo.specs.declared.refusal.Refusal.{Refusal}
use Rattle.hy_undo.specs.declared.refusal.Refusal.TheVariants.{Conflict, Range}
use Rattle.hy_undo.specs.Places.{Place, Cell, sees}
use Rattle.hy_undo.specs.Chunks.{Written}

abbrev pub some_cell : Option (List Value) → Option Cell
some_cell None = None
some_cell (Some row) = Some (Some row)

-- what an UPDATE, by its sets, or a DELETE makes of a row; nothing where a value is out of range
abbrev pub new_cell : Option (List Assign) → List Value → Option Cell
new_cell None row = Some None
new_cell (Some sets) row = some_cell (assigned sets row)

-- a selected row: a conflict comes before a value that is out of range
abbrev pub judged : ℕ → Option Label → Option Cell → Result (Option Cell) Refusal
judged pos (Some other) cell = Err (Conflict pos other)
judged pos None None = Err (Range pos)
judged pos None (Some cell) = Ok (Some cell)

-- the new cell of a position where its row is seen and selected, or why it is refused
abbrev pub verdict : Option (List Assign) → Condition → ℕ → Option Label → Cell → Result (Option Cell) Refusal
verdict sets pred pos other None = Ok None
verdict sets pred pos other (Some row) = if truth_of pred row then judged pos other (new_cell sets row) else Ok None

abbrev pub and_new : Result (Option Cell) Refusal → Result (List (Option Cell)) Refusal → Result (List (Option Cell)) Refusal
and_new (Err refusal) rest = Err refusal
and_new (Ok new) (Err refusal) = Err refusal
and_new (Ok new) (Ok news) = Ok (new ∷ news)

-- at the positions of a chunk from this one on, ascending; the first refusal counts
abbrev pub swept : Option (List Assign) → Condition → Viewer → ℕ → List Place → Result (List (Option Cell)) Refusal
swept sets pred viewer pos [] = Ok []
swept sets pred viewer pos (place ∷ places) =
    and_new (verdict sets pred pos (rival viewer place.chain) (sees viewer place)) (swept sets pred viewer (suc pos) places)

-- each position with a new cell is written, the others stay
abbrev pub AllWritten : Viewer → Label → List (Option Cell) → List Place → List Place → Type 0
AllWritten viewer label [] [] [] = Unit {0}
AllWritten viewer label (None ∷ cells) (old ∷ olds) (new ∷ news) = (new ≡ old) × AllWritten viewer label cells olds news
AllWritten viewer label (Some cell ∷ cells) (old ∷ olds) (new ∷ news) = Written viewer label cell old new × AllWritten viewer label cells olds news
AllWritten viewer label [] (old ∷ olds) news = ⊥
AllWritten viewer label [] [] (new ∷ news) = ⊥
AllWritten viewer label (cell ∷ cells) [] news = ⊥
AllWritten viewer label (cell ∷ cells) (old ∷ olds) [] = ⊥
