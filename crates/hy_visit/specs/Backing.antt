-- A visit of a ROLLBACK TO: what was noted in the chunk since a savepoint is written back, and that is noted.
use Rattle.std.specs.Prelude.{◌≡◌, ℕ, ◌+◌, List, Option, Some, true, filter, length, map, slice_get}
use Rattle.std.specs.List.{AllByRecursion}
use Rattle.hy_value.specs.declared.Kind.{Kind}
use Rattle.hy_value.specs.declared.change.Change.{Change}
use Rattle.hy_notes.specs.Notes.{Ascends, is_between}
use Rattle.hy_undo.specs.Places.{Place, Cell}
use Rattle.hy_undo.specs.Chunks.{ChunkData}
use Rattle.hy_undo.specs.Sweeps.{AllWritten}
use Rattle.hy_chunk.specs.Backing.{MayGoBack}
use Rattle.hy_event.specs.Backing.{noted_before, cells_back}
use Rattle.hy_event.specs.Changing.{OnlyPlaces, changes_from}
use Rattle.hy_event.specs.Turns.{with_notes}
use Rattle.hy_visit.specs.declared.writing.Writer.{Writer}

-- what was seen may be put back at each position of the chunk that is noted
abbrev pub MayAllGoBack : List Kind → Option ℕ → ℕ → List Change → ChunkData → Type 0
MayAllGoBack kinds key id since chunk = (index : ℕ) (place : Place) (cell : Cell) → slice_get chunk.places index ≡ Some place
    → noted_before since chunk.table (chunk.first + index) ≡ Some cell → MayGoBack kinds key id cell place

-- what is changed in a chunk where these notes are gone back on
abbrev pub changes_back : Writer → List Change → ChunkData → List Change
changes_back writer since chunk = changes_from chunk.table chunk.first writer.viewer (cells_back since chunk) chunk.places

-- the chunk, the notes, and those since each savepoint after it
pub record BackDone (writer : Writer) (since : List Change) (old : ChunkData) (notes : List Change) (levels : List (List Change))
    (new : ChunkData) (now : List Change) (later : List (List Change)) : Type 0 where
  pub chunk : OnlyPlaces (AllWritten writer.viewer writer.label (cells_back since old)) old new
  pub noted : now ≡ with_notes notes (changes_back writer since old)
  pub in_each : later ≡ map (λ one. with_notes one (changes_back writer since old)) levels

-- the notes of the positions of a chunk alone tell what goes back there
abbrev pub ChunkNotesTell : Type 0
ChunkNotesTell = (chunk : ChunkData) (notes : List Change)
    → cells_back (filter (is_between chunk.table chunk.first (chunk.first + length chunk.places)) notes) chunk ≡ cells_back notes chunk

-- notes are of positions of a chunk, and in order
pub record AreOfChunk (chunk : ChunkData) (notes : List Change) : Type 0 where
  pub order : Ascends notes
  pub within : AllByRecursion (λ note. is_between chunk.table chunk.first (chunk.first + length chunk.places) note ≡ true) notes

-- the notes of the positions of a chunk, out of notes in order, are so
abbrev pub ChunkNotesStand : Type 0
ChunkNotesStand = (chunk : ChunkData) (notes : List Change) → Ascends notes
    → AreOfChunk chunk (filter (is_between chunk.table chunk.first (chunk.first + length chunk.places)) notes)
