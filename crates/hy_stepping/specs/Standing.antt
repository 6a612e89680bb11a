-- Where a session of the machine stands and which part it visits next, and that a session which is shown stands so too.
use Rattle.std.specs.Prelude.{◌≡◌, ℕ, ◌*◌, ◌/◌, ◌%◌, List, Option, None, Some, Bool, slice_get, slice_index_or, length, if◌then◌else◌}
use Rattle.std.specs.Option.{option_map}
use Rattle.hy_bound.specs.declared.Bound.{Bound}
use Rattle.hy_bound.specs.declared.Bound.TheVariants.{Select, Group, Insert, Update, Delete, Savepoint, RollbackTo, Release}
use Rattle.hy_bound.specs.declared.Txn.{Txn}
use Rattle.hy_bound.specs.Records.{shape_of}
use Rattle.hy_protocol.specs.declared.Phase.{Phase}
use Rattle.hy_protocol.specs.declared.Phase.TheVariants.{Working, Stamping, Undoing}
use Rattle.hy_journal.specs.declared.CoreData.{CoreData}
use Rattle.hy_event.specs.declared.SessionData.{SessionData}
use Rattle.hy_event.specs.declared.Need.{Need}
use Rattle.hy_event.specs.declared.Need.TheVariants.{Core, Chunk, Done}
use Rattle.hy_event.specs.Events.{Part, CorePart}
use Rattle.hy_event.specs.Needs.{chunk_or_core, insert_need, need_of}
use Rattle.hy_event.specs.Sessions.{txn_at as txn_of}
use Rattle.hy_machine.specs.declared.Setting.{Setting}
use Rattle.hy_machine.specs.States.{State, Session, Open, Begun}
use Rattle.hy_machine.specs.Sessions.{session_at, txn_at}
use Rattle.hy_machine.specs.Saving.{written_since}
use Rattle.hy_machine.specs.Visits.{checks_of}
use Rattle.hy_machine.specs.Writes.{written_chunks}
use Rattle.hy_session.specs.Latest.{answered, phase_of}
use Rattle.hy_stepping.specs.Runnable.{IsShown}

-- ---- the part that a session visits next

-- a visit of a SELECT of these tables: the chunks of the first table, then those of the next
abbrev pub select_part : Setting → ℕ → List ℕ → Need
select_part setting visited tables = Chunk (slice_index_or tables (visited / setting.chunks) 0) (visited % setting.chunks)

-- a visit of the present statement
abbrev pub statement_part : Setting → Begun → ℕ → Bound → Need
statement_part setting begun visited (Select tables ons pred items) = select_part setting visited tables
statement_part setting begun visited (Group table pred key aggregate) = Chunk table visited
statement_part setting begun visited (Insert table row) = insert_need visited table (checks_of setting (shape_of setting.shapes table).key)
statement_part setting begun visited (Update table sets pred) = Chunk table visited
statement_part setting begun visited (Delete table pred) = Chunk table visited
statement_part setting begun visited (Savepoint name) = Core
statement_part setting begun visited (RollbackTo name) = chunk_or_core (slice_get (written_since setting begun name) visited)
statement_part setting begun visited (Release name) = Core

-- a stamp or an undo visit: a chunk that was written, and then the core
abbrev pub written_part : Setting → Begun → ℕ → Need
written_part setting begun visited = chunk_or_core (slice_get (written_chunks setting begun.own) visited)

-- what closes a transaction: COMMIT, or ROLLBACK, which undoes from the first chunk
abbrev pub closing_part : Setting → Begun → Bool → Need
closing_part setting begun commits = if commits then Core else written_part setting begun 0

-- a visit of the present statement, or what closes the transaction where all are answered
abbrev pub working_part : Setting → Txn → Begun → ℕ → Option Bound → Need
working_part setting txn begun visited None = closing_part setting begun txn.commits
working_part setting txn begun visited (Some statement) = statement_part setting begun visited statement

-- an open transaction, by where it stands
abbrev pub phase_part : Setting → Txn → Begun → Phase → Need
phase_part setting txn begun (Working visited count) = working_part setting txn begun visited (slice_get txn.statements (length begun.replies))
phase_part setting txn begun (Stamping visited) = written_part setting begun visited
phase_part setting txn begun (Undoing visited cause) = written_part setting begun visited

-- a session that is at this transaction of its script, which is open or not: BEGIN is at the core
abbrev pub session_part : Setting → Option Txn → Option Open → Need
session_part setting None now = Done
session_part setting (Some txn) None = Core
session_part setting (Some txn) (Some current) = phase_part setting txn current.begun current.phase

-- the part that a session visits next
abbrev pub part_at : Setting → State → ℕ → Need
part_at setting state number = session_part setting (txn_at setting number (session_at state number)) (session_at state number).now

-- ---- where it stands

-- where its open transaction stands
abbrev pub phase_in : Option Open → Option Phase
phase_in now = option_map (λ (current : Open). current.phase) now

-- how many statements of its open transaction are answered
abbrev pub answered_in : Option Open → ℕ
answered_in None = 0
answered_in (Some current) = length current.begun.replies

-- a session of the engine stands where the machine's does, and needs the part that that one visits next
pub record StandsAs (setting : Setting) (state : State) (number : ℕ) (session : SessionData) : Type 0 where
  pub number_is : session.number ≡ number
  pub ended : length session.done ≡ length (session_at state number).done
  pub txn : txn_of session ≡ txn_at setting number (session_at state number)
  pub phase : phase_of session ≡ phase_in (session_at state number).now
  pub answers : answered session ≡ answered_in (session_at state number).now
  pub part : need_of session ≡ part_at setting state number

-- each session that is shown stands so; and the core has as many entries as the commit order
pub record SessionsStand : Type 0 where
  pub sessions : (setting : Setting) (state : State) (parts : List Part) (sessions : List SessionData) (number : ℕ) (session : SessionData)
      → IsShown setting state parts sessions → slice_get sessions number ≡ Some session → StandsAs setting state number session
  pub entries : (setting : Setting) (state : State) (parts : List Part) (sessions : List SessionData) (core : CoreData)
      → IsShown setting state parts sessions → slice_get parts (length setting.shapes * setting.chunks) ≡ Some (CorePart core)
      → length core.entries ≡ length state.order
