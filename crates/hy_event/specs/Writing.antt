-- A visit of an UPDATE or a DELETE: the chunk is pruned, and then written, unless a position of it refuses that.
use Rattle.std.specs.Prelude.{◌≡◌, ℕ, List, Option, Result, Ok, Err, length}
use Rattle.hy_bound.specs.declared.Assign.{Assign}
use Rattle.hy_bound.specs.declared.Bound.{Bound}
use Rattle.hy_bound.specs.declared.Reply.{Reply}
use Rattle.hy_bound.specs.Condition.{Condition}
use Rattle.hy_value.specs.declared.change.Change.{Change}
use Rattle.hy_bound.specs.declared.Ending.{Ending}
use Rattle.hy_bound.specs.declared.Ending.TheVariants as ending
use Rattle.hy_stamp.specs.declared.Label.{Label}
use Rattle.hy_stamp.specs.declared.Viewer.{Viewer}
use Rattle.hy_undo.specs.declared.refusal.Refusal.{Refusal}
use Rattle.hy_undo.specs.declared.refusal.Refusal.TheVariants.{Conflict, Range}
use Rattle.hy_undo.specs.Places.{Cell}
use Rattle.hy_undo.specs.Chunks.{ChunkData}
use Rattle.hy_undo.specs.Sweeps.{swept, AllWritten}
use Rattle.hy_event.specs.declared.SessionData.{SessionData}
use Rattle.hy_event.specs.declared.Open.{Open}
use Rattle.hy_protocol.specs.declared.Progress.{Progress}
use Rattle.hy_event.specs.Sessions.{layout_of, label_of, viewer_of}
use Rattle.hy_protocol.specs.Turns.{Turn}
use Rattle.hy_protocol.specs.Statements.{kind_of, told_by as told_of, write_turn as writes_on}
use Rattle.hy_event.specs.Turns.{Takes}
use Rattle.hy_event.specs.Changing.{OnlyPlaces, PrunesFirst, changes_from}

-- the reply to an UPDATE, by its sets, or a DELETE that selected so many rows
abbrev pub told_by : Option (List Assign) → ℕ → Reply
told_by sets = told_of (kind_of sets)

-- how a transaction ends that is refused at a position of a table
abbrev pub ending_by : ℕ → Refusal → Ending
ending_by table (Conflict pos other) = ending.Conflict table pos other
ending_by table (Range pos) = ending.Range table pos

-- what is changed of a table, or how the transaction ends that is refused there
abbrev pub changed_in : ℕ → Result (List Change) Refusal → Result (List Change) Ending
changed_in table (Err refusal) = Err (ending_by table refusal)
changed_in table (Ok changes) = Ok changes

-- a visit of an UPDATE or a DELETE, by what it changes in its chunk: the last one answers
abbrev pub write_turn : SessionData → Open → ℕ → ℕ → Bound → ℕ → Option (List Assign) → Result (List Change) Refusal → Turn Change
write_turn session now visited count statement table sets changes =
    writes_on (layout_of session) (length now.replies) visited count statement (kind_of sets) (changed_in table changes)

-- the new cells of the positions of a chunk, or the first refusal
abbrev pub cells_by : Option (List Assign) → Condition → Viewer → ChunkData → Result (List (Option Cell)) Refusal
cells_by sets pred viewer chunk = swept sets pred viewer chunk.first chunk.places

-- what becomes of the chunk: each position with a new cell is written, and where one is refused nothing is
abbrev pub Becomes : Viewer → Label → Result (List (Option Cell)) Refusal → ChunkData → ChunkData → Type 0
Becomes viewer label (Err refusal) old new = new ≡ old
Becomes viewer label (Ok cells) old new = OnlyPlaces (AllWritten viewer label cells) old new

-- what is changed where a chunk of a table gets these cells
abbrev pub changes_by : ℕ → Viewer → ChunkData → Result (List (Option Cell)) Refusal → Result (List Change) Refusal
changes_by table viewer chunk (Err refusal) = Err refusal
changes_by table viewer chunk (Ok cells) = Ok (changes_from table chunk.first viewer cells chunk.places)

-- a visit of an UPDATE, by its sets, or a DELETE
pub record WriteVisit (session : SessionData) (now : Open) (visited count : ℕ) (statement : Bound) (table : ℕ)
    (sets : Option (List Assign)) (pred : Condition) (old : ChunkData) (progress : Progress) (after : SessionData) (new : ChunkData) : Type 0 where
  pub between : ChunkData
  pub prunes : PrunesFirst session.prunes now.cover old between
  pub chunk : Becomes (viewer_of session now) (label_of session) (cells_by sets pred (viewer_of session now) between) between new
  pub turn : Takes session
      (write_turn session now visited count statement table sets
      (changes_by table (viewer_of session now) between (cells_by sets pred (viewer_of session now) between)))
      progress after
