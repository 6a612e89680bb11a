-- What a visit takes of a session beside its open transaction, and what a statement that writes asks of its chunk.
use Rattle.std.specs.Prelude.{◌≡◌, ◌≤◌, ℕ, Bool, true, false, Option, None, Some, length}
use Rattle.std.specs.Option.{option_map_or}
use Rattle.hy_stamp.specs.Times.{id_of}
use Rattle.hy_prune.specs.declared.Cover.{Cover}
use Rattle.hy_bound.specs.declared.Bound.{Bound}
use Rattle.hy_bound.specs.declared.Bound.TheVariants.{Select, Group, Insert, Update, Delete, Savepoint, RollbackTo, Release}
use Rattle.hy_bound.specs.Records.{shape_of}
use Rattle.hy_chunk.specs.Views.{Whole}
use Rattle.hy_undo.specs.Chunks.{ChunkData}
use Rattle.hy_visit.specs.Pruning.{AllFall, AllShort}
use Rattle.hy_event.specs.declared.SessionData.{SessionData}
use Rattle.hy_event.specs.declared.Open.{Open}
use Rattle.hy_protocol.specs.declared.Phase.{Phase}
use Rattle.hy_protocol.specs.declared.Phase.TheVariants.{Working, Stamping, Undoing}
use Rattle.hy_event.specs.Sessions.{label_of}
use Rattle.hy_event.specs.Turns.{with_open}
use Rattle.hy_session.specs.declared.visitors.Visitor.{Visitor}
use Rattle.hy_session.specs.Near.{IsTyped, present_statement}
use Rattle.hy_session.specs.Short.{statement_prunes}

-- these are the parts of a session
pub record IsVisitor (session : SessionData) (visitor : Visitor) : Type 0 where
  pub label : visitor.label ≡ label_of session
  pub id : visitor.id ≡ id_of (label_of session)
  pub shapes : visitor.shapes.now ≡ session.shapes
  pub chunks : visitor.chunks ≡ session.chunks
  pub prunes : visitor.prunes ≡ session.prunes

-- each session of these parts visits so, whose open transaction is this one before and that one after
abbrev pub ForVisitor : Visitor → Open → Open → (SessionData → SessionData → Type 0) → Type 0
ForVisitor visitor old new visit = (session : SessionData) → IsVisitor session visitor → session.now ≡ Some old → visit session (with_open new session)

-- a statement that writes is of the chunk's table; a ROLLBACK TO is of any
abbrev pub IsInTable : ℕ → Bound → Type 0
IsInTable table (Select tables ons pred items) = ⊥
IsInTable table (Group other pred key aggregate) = ⊥
IsInTable table (Insert other row) = other ≡ table
IsInTable table (Update other sets pred) = other ≡ table
IsInTable table (Delete other pred) = other ≡ table
IsInTable table (Savepoint name) = ⊥
IsInTable table (RollbackTo name) = Unit {0}
IsInTable table (Release name) = ⊥

-- the chunk has the columns of its table, in each chain the marks fall, and the cover is of before the transaction
pub record IsReady (visitor : Visitor) (cover : Cover) (chunk : Whole) : Type 0 where
  pub wide : length chunk.kinds ≡ (shape_of visitor.shapes.now chunk.shown.table).width
  pub falls : AllFall chunk.shown.places
  pub early : cover.next ≤ visitor.id

-- and a statement writes in it
pub record CanWork (visitor : Visitor) (cover : Cover) (statement : Bound) (chunk : Whole) : Type 0 where
  pub ready : IsReady visitor cover chunk
  pub table : IsInTable chunk.shown.table statement
  pub typed : IsTyped chunk.kinds chunk.shown.key statement

-- where a session of these parts prunes, and a visit of the statement does, the chunk is left with no long chain
abbrev pub ShortAt : Visitor → ℕ → Bound → Cover → ChunkData → Type 0
ShortAt visitor visited statement cover new = (session : SessionData) → IsVisitor session visitor
    → session.prunes ≡ true → statement_prunes session visited statement ≡ true → AllShort cover new.places

-- whether a statement is a SELECT
abbrev pub gathers : Bound → Bool
gathers (Select tables ons pred items) = true
gathers (Group table pred key aggregate) = true
gathers (Insert table row) = false
gathers (Update table sets pred) = false
gathers (Delete table pred) = false
gathers (Savepoint name) = false
gathers (RollbackTo name) = false
gathers (Release name) = false

-- whether the next visit of an open transaction, by where it stands, is one of a SELECT
abbrev pub reads_at : SessionData → Open → Phase → Bool
reads_at session now (Working visited count) = option_map_or gathers (present_statement session now) false
reads_at session now (Stamping visited) = false
reads_at session now (Undoing visited cause) = false

abbrev pub reads_in : SessionData → Option Open → Bool
reads_in session None = false
reads_in session (Some now) = reads_at session now now.phase

-- whether the next visit of a session at a chunk is one of a SELECT
abbrev pub is_reading : SessionData → Bool
is_reading session = reads_in session session.now
