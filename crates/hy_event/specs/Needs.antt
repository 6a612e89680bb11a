-- Which part a session needs for its next visit, read off the session.
use Rattle.std.specs.Prelude.{ℕ, ◌-◌, ◌/◌, ◌%◌, List, Bool, nat_lt, Option, None, Some, slice_get, slice_index_or, length, if◌then◌else◌}
use Rattle.hy_bound.specs.declared.Bound.{Bound}
use Rattle.hy_bound.specs.declared.Bound.TheVariants.{Select, Group, Insert, Update, Delete, Savepoint, RollbackTo, Release}
use Rattle.hy_bound.specs.declared.Txn.{Txn}
use Rattle.hy_bound.specs.Records.{shape_of}
use Rattle.hy_event.specs.declared.SessionData.{SessionData}
use Rattle.hy_event.specs.declared.Open.{Open}
use Rattle.hy_protocol.specs.declared.Phase.{Phase}
use Rattle.hy_protocol.specs.declared.Phase.TheVariants.{Working, Stamping, Undoing}
use Rattle.hy_event.specs.declared.Need.{Need}
use Rattle.hy_event.specs.declared.Need.TheVariants.{Core, Chunk, Done}
use Rattle.hy_protocol.specs.Statements.{checks_of as checks_in}
use Rattle.hy_event.specs.Sessions.{layout_of, txn_at, written_chunks, chunks_since}

-- how many chunks an INSERT checks for its key before it takes a position
abbrev pub checks_of : SessionData → Option ℕ → ℕ
checks_of session = checks_in (layout_of session)

-- a visit of a SELECT of these tables: the chunks of the first table, then those of the next
abbrev pub select_need : SessionData → ℕ → List ℕ → Need
select_need session visited tables = Chunk (slice_index_or tables (visited / session.chunks) 0) (visited % session.chunks)

-- a visit of an INSERT: the chunks that it checks, and then those in which it looks for a position
abbrev pub insert_need : ℕ → ℕ → ℕ → Need
insert_need visited table checks = if nat_lt visited checks then Chunk table visited else Chunk table (visited - checks)

-- a chunk that is left to do, or the core where none is
abbrev pub chunk_or_core : Option (ℕ × ℕ) → Need
chunk_or_core None = Core
chunk_or_core (Some chunk) = Chunk chunk.0 chunk.1

-- a visit of the present statement
abbrev pub statement_need : SessionData → Open → ℕ → Bound → Need
statement_need session now visited (Select tables ons pred items) = select_need session visited tables
statement_need session now visited (Group table pred key aggregate) = Chunk table visited
statement_need session now visited (Insert table row) = insert_need visited table (checks_of session (shape_of session.shapes table).key)
statement_need session now visited (Update table sets pred) = Chunk table visited
statement_need session now visited (Delete table pred) = Chunk table visited
statement_need session now visited (Savepoint name) = Core
statement_need session now visited (RollbackTo name) = chunk_or_core (slice_get (chunks_since session now name) visited)
statement_need session now visited (Release name) = Core

-- a stamp or an undo visit: a chunk that was written, and then the end
abbrev pub written_need : SessionData → Open → ℕ → Need
written_need session now visited = chunk_or_core (slice_get (written_chunks session now) visited)

-- what closes a transaction: COMMIT, or ROLLBACK, which undoes from the first chunk
abbrev pub closing_need : SessionData → Open → Bool → Need
closing_need session now commits = if commits then Core else written_need session now 0

-- a visit of the present statement, or what closes the transaction where all are answered
abbrev pub working_need : SessionData → Txn → Open → ℕ → Option Bound → Need
working_need session txn now visited None = closing_need session now txn.commits
working_need session txn now visited (Some statement) = statement_need session now visited statement

-- what an open transaction needs, by where it stands
abbrev pub phase_need : SessionData → Txn → Open → Phase → Need
phase_need session txn now (Working visited count) = working_need session txn now visited (slice_get txn.statements (length now.replies))
phase_need session txn now (Stamping visited) = written_need session now visited
phase_need session txn now (Undoing visited cause) = written_need session now visited

-- what a session needs that is at this transaction of its program, which is open or not
abbrev pub session_need : SessionData → Option Txn → Option Open → Need
session_need session None now = Done
session_need session (Some txn) None = Core
session_need session (Some txn) (Some now) = phase_need session txn now now.phase

-- what a session needs next
abbrev pub need_of : SessionData → Need
need_of session = session_need session (txn_at session) session.now
