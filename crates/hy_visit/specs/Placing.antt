-- A visit of an INSERT that looks for a free position: the chunk is pruned, and the row comes to the first free one.
use Rattle.std.specs.Prelude.{◌≡◌, ℕ, List, [], ◌∷◌, Option, None, Some, map}
use Rattle.hy_value.specs.declared.Value.{Value}
use Rattle.hy_value.specs.declared.change.Change.{Change}
use Rattle.hy_undo.specs.Chunks.{ChunkData}
use Rattle.hy_event.specs.Inserting.{Comes, free_index, free_position}
use Rattle.hy_event.specs.Turns.{with_notes}
use Rattle.hy_visit.specs.declared.writing.Writer.{Writer}
use Rattle.hy_event.specs.Changing.{PrunesFirst}

-- the change of the position that a row comes to, if it comes to one
abbrev pub change_at : ℕ → List Value → Option ℕ → List Change
change_at table row None = []
change_at table row (Some pos) = record { table = table; pos = pos; before = None; after = Some row } ∷ []

-- what was told of it, and the notes after it, since each savepoint too
pub record PlaceDone (writer : Writer) (row : List Value) (old : ChunkData) (notes : List Change) (levels : List (List Change))
    (answer : Option ℕ) (new : ChunkData) (now : List Change) (later : List (List Change)) : Type 0 where
  pub between : ChunkData
  pub prunes : PrunesFirst writer.prunes writer.cover.now old between
  pub chunk : Comes writer.viewer writer.label writer.cover.now row (free_index writer.cover.now between) between new
  pub told : answer ≡ free_position writer.cover.now between
  pub noted : now ≡ with_notes notes (change_at old.table row answer)
  pub in_each : later ≡ map (λ since. with_notes since (change_at old.table row answer)) levels
