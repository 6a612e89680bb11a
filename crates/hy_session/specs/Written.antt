-- What an UPDATE, a DELETE or an INSERT of a session did to a chunk and to what it notes, and what was told of it.
use Rattle.std.specs.Prelude.{◌≡◌, ℕ, List, Option, Result, Ok, Err}
use Rattle.hy_value.specs.declared.Value.{Value}
use Rattle.hy_bound.specs.declared.Assign.{Assign}
use Rattle.hy_bound.specs.Condition.{Condition}
use Rattle.hy_value.specs.declared.change.Change.{Change}
use Rattle.hy_prune.specs.declared.Cover.{Cover}
use Rattle.hy_undo.specs.declared.refusal.Refusal.{Refusal}
use Rattle.hy_undo.specs.Chunks.{ChunkData}
use Rattle.hy_chunk.specs.Sound.{FitsRow}
use Rattle.hy_chunk.specs.Views.{Whole}
use Rattle.hy_chunk.specs.Writes.{FitsWrite, sets_of}
use Rattle.hy_visit.specs.Placing.{change_at}
use Rattle.hy_visit.specs.Writing.{counted}
use Rattle.hy_bound.specs.Savepoints.{Saved}
use Rattle.hy_event.specs.declared.SavedNotes.{SavedNotes}
use Rattle.hy_event.specs.declared.SessionData.{SessionData}
use Rattle.hy_event.specs.declared.Open.{Open}
use Rattle.hy_event.specs.Changing.{PrunesFirst}
use Rattle.hy_event.specs.Inserting.{Comes, free_index, free_position}
use Rattle.hy_event.specs.Sessions.{label_of, viewer_of}
use Rattle.hy_event.specs.Turns.{with_notes, with_since}
use Rattle.hy_session.specs.Savepoints.{savepoints}
use Rattle.hy_event.specs.Writing.{Becomes, cells_by, changes_by}
use Rattle.hy_session.specs.declared.visitors.Visitor.{Visitor}
use Rattle.hy_session.specs.declared.writing.Write.{Write}
use Rattle.hy_session.specs.declared.inserting.Insertion.{Insertion}
use Rattle.hy_session.specs.Visitors.{IsReady, IsVisitor}

-- an open transaction has this start, this cover, these notes, and savepoints of these names and levels
pub record HasNoted (start : ℕ) (cover : Cover) (notes : List Change) (names : List (Saved (Unit {0}))) (levels : List (List Change)) (now : Open)
    : Type 0 where
  pub starts : now.start ≡ start
  pub covers : now.cover ≡ cover
  pub noted : now.notes ≡ notes
  pub saved : now.saved ≡ savepoints names levels

-- what it keeps of its writes: the notes, and those since each savepoint
pub record NotesKept : Type 0 where
  pub notes : List Change
  pub saved : List SavedNotes

abbrev pub kept_in : Open → NotesKept
kept_in now = record { notes = now.notes; saved = now.saved }

abbrev pub kept_as : List (Saved (Unit {0})) → List Change → List (List Change) → NotesKept
kept_as names notes levels = record { notes = notes; saved = savepoints names levels }

-- after changes
abbrev pub kept_with : NotesKept → List Change → NotesKept
kept_with kept changes = record { notes = with_notes kept.notes changes; saved = with_since kept.saved changes }

-- or as it was where these are refused
abbrev pub kept_after : NotesKept → Result (List Change) Refusal → NotesKept
kept_after kept (Err refusal) = kept
kept_after kept (Ok changes) = kept_with kept changes

-- ---- UPDATE and DELETE

-- the statement is of the chunk's table and types
pub record CanWrite (visitor : Visitor) (write : Write) (cover : Cover) (chunk : Whole) : Type 0 where
  pub ready : IsReady visitor cover chunk
  pub table : write.table ≡ chunk.shown.table
  pub fits : FitsWrite chunk.kinds chunk.shown.key write.kind

-- the chunk was pruned and then written, and how many rows that were was told, or why none
pub record Wrote (session : SessionData) (now : Open) (table : ℕ) (sets : Option (List Assign)) (pred : Condition) (old : ChunkData)
    (answer : Result ℕ Refusal) (new : ChunkData) (kept : NotesKept) : Type 0 where
  pub between : ChunkData
  pub prunes : PrunesFirst session.prunes now.cover old between
  pub chunk : Becomes (viewer_of session now) (label_of session) (cells_by sets pred (viewer_of session now) between) between new
  pub told : answer ≡ counted (changes_by table (viewer_of session now) between (cells_by sets pred (viewer_of session now) between))
  pub noted : kept ≡ kept_after (kept_in now) (changes_by table (viewer_of session now) between (cells_by sets pred (viewer_of session now) between))

-- that holds of each session of these parts
abbrev pub HasWritten : Visitor → Write → ℕ → Cover → List Change → List (List Change) → ChunkData → Result ℕ Refusal → ChunkData → List Change
    → List (List Change) → Type 0
HasWritten visitor write start cover notes levels old answer new after later = (session : SessionData) (now : Open) (names : List (Saved (Unit {0})))
    → IsVisitor session visitor → HasNoted start cover notes names levels now
    → Wrote session now write.table (sets_of write.kind) write.pred.now old answer new (kept_as names after later)

-- ---- INSERT

-- the row is of the chunk's table and types
pub record CanInsert (visitor : Visitor) (insertion : Insertion) (cover : Cover) (chunk : Whole) : Type 0 where
  pub ready : IsReady visitor cover chunk
  pub table : insertion.table ≡ chunk.shown.table
  pub fits : FitsRow chunk.kinds insertion.row.now

-- the chunk was pruned, the row came to its first free position, if there is one, and that was told
pub record Came (session : SessionData) (now : Open) (table : ℕ) (row : List Value) (old : ChunkData)
    (answer : Option ℕ) (new : ChunkData) (kept : NotesKept) : Type 0 where
  pub between : ChunkData
  pub prunes : PrunesFirst session.prunes now.cover old between
  pub chunk : Comes (viewer_of session now) (label_of session) now.cover row (free_index now.cover between) between new
  pub told : answer ≡ free_position now.cover between
  pub noted : kept ≡ kept_with (kept_in now) (change_at table row answer)

-- that holds of each session of these parts
abbrev pub HasCome : Visitor → Insertion → ℕ → Cover → List Change → List (List Change) → ChunkData → Option ℕ → ChunkData → List Change
    → List (List Change) → Type 0
HasCome visitor insertion start cover notes levels old answer new after later = (session : SessionData) (now : Open) (names : List (Saved (Unit {0})))
    → IsVisitor session visitor → HasNoted start cover notes names levels now
    → Came session now insertion.table insertion.row.now old answer new (kept_as names after later)
