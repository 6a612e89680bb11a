-- A visit of an UPDATE or a DELETE: the chunk is pruned and then written, and what is written is noted.
use Rattle.std.specs.Prelude.{◌≡◌, ℕ, List, Option, Result, Ok, Err, length, map}
use Rattle.hy_bound.specs.declared.Assign.{Assign}
use Rattle.hy_bound.specs.Condition.{Condition}
use Rattle.hy_value.specs.declared.change.Change.{Change}
use Rattle.hy_undo.specs.declared.refusal.Refusal.{Refusal}
use Rattle.hy_undo.specs.Chunks.{ChunkData}
use Rattle.hy_event.specs.Turns.{with_notes}
use Rattle.hy_event.specs.Writing.{Becomes, cells_by, changes_by}
use Rattle.hy_visit.specs.declared.writing.Writer.{Writer}
use Rattle.hy_event.specs.Changing.{PrunesFirst}

-- how many changes there are, or why there are none
abbrev pub counted : Result (List Change) Refusal → Result ℕ Refusal
counted (Err refusal) = Err refusal
counted (Ok changes) = Ok (length changes)

-- notes after changes, or as they were where these are refused
abbrev pub noted_after : List Change → Result (List Change) Refusal → List Change
noted_after notes (Err refusal) = notes
noted_after notes (Ok changes) = with_notes notes changes

-- what was told of it, and the notes after it, since each savepoint too
pub record WriteDone (writer : Writer) (sets : Option (List Assign)) (pred : Condition) (old : ChunkData) (notes : List Change)
    (levels : List (List Change)) (answer : Result ℕ Refusal) (new : ChunkData) (now : List Change) (later : List (List Change)) : Type 0 where
  pub between : ChunkData
  pub prunes : PrunesFirst writer.prunes writer.cover.now old between
  pub chunk : Becomes writer.viewer writer.label (cells_by sets pred writer.viewer between) between new
  pub told : answer ≡ counted (changes_by old.table writer.viewer between (cells_by sets pred writer.viewer between))
  pub noted : now ≡ noted_after notes (changes_by old.table writer.viewer between (cells_by sets pred writer.viewer between))
  pub in_each : later ≡ map (λ since. noted_after since (changes_by old.table writer.viewer between (cells_by sets pred writer.viewer between))) levels
