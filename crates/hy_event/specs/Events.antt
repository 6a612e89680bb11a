-- A visit of a session to the part that it needs: what can become of the two.
use Rattle.std.specs.Prelude.{◌≡◌, ℕ, ◌+◌, ◌*◌, Bool, true, false, Option, None, Some, slice_get, length}
use Rattle.hy_bound.specs.declared.Bound.{Bound}
use Rattle.hy_bound.specs.declared.Bound.TheVariants.{Select, Group, Insert, Update, Delete, Savepoint, RollbackTo, Release}
use Rattle.hy_bound.specs.declared.Txn.{Txn}
use Rattle.hy_bound.specs.Records.{shape_of}
use Rattle.hy_journal.specs.declared.CoreData.{CoreData}
use Rattle.hy_bound.specs.declared.Ending.TheVariants.{RolledBack}
use Rattle.hy_undo.specs.Chunks.{ChunkData}
use Rattle.hy_event.specs.declared.SessionData.{SessionData}
use Rattle.hy_event.specs.declared.Open.{Open}
use Rattle.hy_protocol.specs.declared.Phase.{Phase}
use Rattle.hy_protocol.specs.declared.Phase.TheVariants.{Working, Stamping, Undoing}
use Rattle.hy_event.specs.declared.Need.{Need}
use Rattle.hy_event.specs.declared.Need.TheVariants.{Core, Chunk, Done}
use Rattle.hy_protocol.specs.declared.Progress.{Progress}
use Rattle.hy_event.specs.Sessions.{txn_at}
use Rattle.hy_event.specs.Needs.{need_of}
use Rattle.hy_event.specs.Gathering.{select_read_plan, group_read_plan}
use Rattle.hy_event.specs.Reading.{ReadVisit}
use Rattle.hy_event.specs.Writing.{WriteVisit}
use Rattle.hy_event.specs.Inserting.{InsertVisit}
use Rattle.hy_event.specs.Stamping.{StampVisit}
use Rattle.hy_event.specs.Undoing.{UndoVisit}
use Rattle.hy_event.specs.Backing.{BackVisit}
use Rattle.hy_event.specs.CoreTurns.{CoreEvent}

-- ---- a visit of a chunk

-- a visit of the present statement: SAVEPOINT and RELEASE visit no chunk
abbrev pub StatementVisit : SessionData → Open → ℕ → ℕ → Bound → ChunkData → Progress → SessionData → ChunkData → Type 0
StatementVisit session now visited count (Select tables ons pred items) =
    ReadVisit session now visited (Select tables ons pred items) (select_read_plan session.shapes tables ons pred items)
StatementVisit session now visited count (Group table pred key aggregate) =
    ReadVisit session now visited (Group table pred key aggregate) (group_read_plan session.shapes table pred key aggregate)
StatementVisit session now visited count (Insert table row) =
    InsertVisit session now visited (Insert table row) table row (shape_of session.shapes table).key
StatementVisit session now visited count (Update table sets pred) =
    WriteVisit session now visited count (Update table sets pred) table (Some sets) pred
StatementVisit session now visited count (Delete table pred) =
    WriteVisit session now visited count (Delete table pred) table None pred
StatementVisit session now visited count (Savepoint name) = λ old progress after new. ⊥
StatementVisit session now visited count (RollbackTo name) = BackVisit session now visited name
StatementVisit session now visited count (Release name) = λ old progress after new. ⊥

-- what closes a transaction: COMMIT visits no chunk, ROLLBACK undoes from the first one
abbrev pub ClosingVisit : SessionData → Open → Bool → ChunkData → Progress → SessionData → ChunkData → Type 0
ClosingVisit session now true old progress after new = ⊥
ClosingVisit session now false old progress after new = UndoVisit session now 0 RolledBack old progress after new

-- a visit of the present statement, or what closes the transaction where all are answered
abbrev pub WorkingVisit : SessionData → Txn → Open → ℕ → ℕ → Option Bound → ChunkData → Progress → SessionData → ChunkData → Type 0
WorkingVisit session txn now visited count None = ClosingVisit session now txn.commits
WorkingVisit session txn now visited count (Some statement) = StatementVisit session now visited count statement

-- a visit of an open transaction, by where it stands
abbrev pub PhaseVisit : SessionData → Txn → Open → Phase → ChunkData → Progress → SessionData → ChunkData → Type 0
PhaseVisit session txn now (Working visited count) = WorkingVisit session txn now visited count (slice_get txn.statements (length now.replies))
PhaseVisit session txn now (Stamping visited) = StampVisit session now visited
PhaseVisit session txn now (Undoing visited cause) = UndoVisit session now visited cause

-- a visit of a session that is at this transaction of its program, which is open or not
abbrev pub SessionVisit : SessionData → Option Txn → Option Open → ChunkData → Progress → SessionData → ChunkData → Type 0
SessionVisit session None now old progress after new = ⊥
SessionVisit session (Some txn) None old progress after new = ⊥
SessionVisit session (Some txn) (Some now) old progress after new = PhaseVisit session txn now now.phase old progress after new

-- a visit of a chunk
abbrev pub ChunkEvent : SessionData → ChunkData → Progress → SessionData → ChunkData → Type 0
ChunkEvent session old progress after new = SessionVisit session (txn_at session) session.now old progress after new

-- ---- a visit of a part

-- a part: a chunk or the core
pub data Part : Type 0 where
  ChunkPart : ChunkData → Part
  CorePart : CoreData → Part

-- parts are numbered: the chunks by table and then chunk, the core last
abbrev pub part_number : SessionData → Need → Option ℕ
part_number session Core = Some (length session.shapes * session.chunks)
part_number session (Chunk table chunk) = Some (table * session.chunks + chunk)
part_number session Done = None

-- a visit of a part that is of the kind that the session needs
abbrev pub NeededVisit : Need → SessionData → Part → Progress → SessionData → Part → Type 0
NeededVisit Core session (CorePart old) progress after (CorePart new) = CoreEvent session old progress after new
NeededVisit Core session old progress after new = ⊥
NeededVisit (Chunk table chunk) session (ChunkPart old) progress after (ChunkPart new) = ChunkEvent session old progress after new
NeededVisit (Chunk table chunk) session old progress after new = ⊥
NeededVisit Done session old progress after new = ⊥

-- a session visits the part of this number, which is the one that it needs
pub record Event (number : ℕ) (session : SessionData) (old : Part) (after : SessionData) (new : Part) : Type 0 where
  pub progress : Progress
  pub needed : part_number session (need_of session) ≡ Some number
  pub visit : NeededVisit (need_of session) session old progress after new
