-- A visit of the core: what a session finds out there, of which its turn follows, and what the turn makes of the core.
use Rattle.std.specs.Prelude.{◌≡◌, ℕ, ◌-◌, List, Option, None, Some, drop, slice_get, length, ◌==◌, if◌then◌else◌}
use Rattle.std.specs.Option.{option_map}
use Rattle.hy_bound.specs.declared.Bound.{Bound}
use Rattle.hy_bound.specs.declared.Record.{Record}
use Rattle.hy_bound.specs.declared.Txn.{Txn}
use Rattle.hy_value.specs.declared.change.Change.{Change}
use Rattle.hy_journal.specs.declared.CoreData.{CoreData}
use Rattle.hy_journal.specs.Core.{blocked_by, core_begun, core_entered, core_left, core_closed}
use Rattle.hy_bound.specs.declared.Ending.{Ending}
use Rattle.hy_bound.specs.declared.Ending.TheVariants as ending
use Rattle.hy_validate.specs.declared.Invalid.{Invalid}
use Rattle.hy_validate.specs.Hits.{first_invalid}
use Rattle.hy_event.specs.declared.SessionData.{SessionData}
use Rattle.hy_event.specs.declared.Open.{Open}
use Rattle.hy_event.specs.declared.Need.{Need}
use Rattle.hy_event.specs.declared.Need.TheVariants as need
use Rattle.hy_protocol.specs.declared.Phase.{Phase}
use Rattle.hy_protocol.specs.declared.Progress.{Progress}
use Rattle.hy_event.specs.Sessions.{txn_at, label_of, written_chunks}
use Rattle.hy_event.specs.Needs.{need_of, phase_need}
use Rattle.hy_protocol.specs.Asking.{AtCore}
use Rattle.hy_protocol.specs.Turns.{Turn, Done, Waits, Begins, Visits, Answers, Saves, Enters, Ends, is_stamping}
use Rattle.hy_protocol.specs.Statements.{saving_turn}
use Rattle.hy_protocol.specs.Sessions as by_phase
use Rattle.hy_event.specs.Turns.{TakesBy}

-- ---- what a session finds out

-- the statement of a record
abbrev pub statement_of : Option Record → ℕ
statement_of None = 0
statement_of (Some of) = of.statement

-- how a transaction ends whose record of that number is hit
abbrev pub invalid_by : List Record → Invalid → Ending
invalid_by records invalid = ending.Invalid invalid.table invalid.pos invalid.other (statement_of (slice_get records invalid.number))

-- its open transaction is validated by the entries since its start
abbrev pub found_at_core : SessionData → CoreData → Open → AtCore
found_at_core session core now = record {
  blocked = blocked_by core (label_of session);
  wrote_nothing = length now.notes == 0;
  written = written_chunks session now;
  hit = option_map (invalid_by now.records) (first_invalid now.records (drop now.prefix core.entries));
  last = length core.entries - 1;
}

-- ---- its turn

-- what it does where it needs the core
abbrev pub if_core : Need → Turn Change → Option (Turn Change)
if_core need.Core turn = Some turn
if_core (need.Chunk table chunk) turn = None
if_core need.Done turn = None

-- what it does for its present statement: one that opens or closes savepoints is answered here
abbrev pub statement_turn : SessionData → CoreData → Open → ℕ → ℕ → Bound → Turn Change
statement_turn session core now visited count statement = saving_turn (found_at_core session core now) statement

-- what an open transaction does
abbrev pub open_turn : SessionData → CoreData → Txn → Open → Phase → Turn Change
open_turn session core txn now = by_phase.phase_turn (statement_turn session core now) (found_at_core session core now) txn (length now.replies)

abbrev pub phase_turn : SessionData → CoreData → Txn → Open → Phase → Option (Turn Change)
phase_turn session core txn now phase = if_core (phase_need session txn now phase) (open_turn session core txn now phase)

-- what a session does at the core, if it has something to do there
abbrev pub core_turn : SessionData → CoreData → Option (Turn Change)
core_turn session core =
    if_core (need_of session)
    (by_phase.session_turn (blocked_by core (label_of session)) (λ (txn : Txn) (now : Open). open_turn session core txn now now.phase)
    (txn_at session) session.now)

-- ---- the core after it

-- after the entry of an open transaction
abbrev pub entered_by : SessionData → CoreData → Option Open → CoreData
entered_by session core None = core
entered_by session core (Some now) = core_entered core (label_of session) now.start now.notes

-- after its end: the mark of one that has its entry goes
abbrev pub ended_by : CoreData → Option Open → CoreData
ended_by core None = core
ended_by core (Some now) = if is_stamping now.phase then core_left core now.start else core_closed core now.start

abbrev pub core_after : SessionData → CoreData → Turn Change → CoreData
core_after session core Done = core
core_after session core (Waits by) = core
core_after session core Begins = core_begun core
core_after session core (Visits changes phase) = core
core_after session core (Answers changes reply took records) = core
core_after session core (Saves statement reply) = core
core_after session core Enters = entered_by session core session.now
core_after session core (Ends ending) = ended_by core session.now

-- a session takes this turn, and leaves the core so
abbrev pub TakesAtCore : SessionData → CoreData → Option (Turn Change) → Progress → SessionData → CoreData → Type 0
TakesAtCore session old None progress after new = ⊥
TakesAtCore session old (Some turn) progress after new = TakesBy old session turn progress after × (new ≡ core_after session old turn)

-- a visit of the core
abbrev pub CoreEvent : SessionData → CoreData → Progress → SessionData → CoreData → Type 0
CoreEvent session old progress after new = TakesAtCore session old (core_turn session old) progress after new
