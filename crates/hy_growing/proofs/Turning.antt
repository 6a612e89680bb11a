-- What the turn of an open transaction may be: a turn of its present statement, or of what closes it.
use Rattle.std.proofs.Common.{◌≡◌, ℕ, length, true, false, Bool, Option, None, Some}
use Rattle.std.specs.Prelude.{slice_get}
use Rattle.hy_bound.specs.declared.Txn.{Txn}
use Rattle.hy_bound.specs.declared.Bound.{Bound}
use Rattle.hy_bound.specs.declared.Bound.TheVariants.{Select, Group, Insert, Update, Delete, Savepoint, RollbackTo, Release}
use Rattle.hy_bound.specs.declared.Reply.{Reply}
use Rattle.hy_bound.specs.declared.Reply.TheVariants.{Saved, Back, Released}
use Rattle.hy_bound.specs.declared.Ending.{Ending}
use Rattle.hy_bound.specs.declared.Ending.TheVariants.{RolledBack}
use Rattle.hy_stamp.specs.declared.Label.{Label}
use Rattle.hy_protocol.specs.declared.Phase.{Phase}
use Rattle.hy_protocol.specs.declared.Phase.TheVariants.{Working, Stamping, Undoing}
use Rattle.hy_protocol.specs.Turns.{Turn, Done, Waits, Begins, Visits, Answers, Saves, Enters, Ends}
use Rattle.hy_machine.specs.declared.Setting.{Setting}
use Rattle.hy_machine.specs.States.{State, Begun}
use Rattle.hy_machine.specs.Writes.{Write}
use Rattle.hy_machine.specs.Sessions.{blocker}
use Rattle.hy_machine.specs.Turns.{statement_turn, undo_turn, stamp_turn, closing_turn, working_turn, phase_turn}
use Rattle.hy_machine.specs.TurnCases.{StatementCases, SaveCases, statement_cases, undo_cases, stamp_cases, commit_cases}

-- ---- a statement

-- it goes on, is refused, is answered, or waits for the transaction that is in the way
abbrev pub IsOfStatement : Option Label → Turn Write → Type 0
IsOfStatement by Done = ⊥
IsOfStatement by (Waits other) = by ≡ Some other
IsOfStatement by Begins = ⊥
IsOfStatement by (Visits writes (Working visited count)) = Unit {0}
IsOfStatement by (Visits writes (Stamping visited)) = ⊥
IsOfStatement by (Visits writes (Undoing visited cause)) = Unit {0}
IsOfStatement by (Answers writes reply took records) = Unit {0}
IsOfStatement by (Saves statement reply) = Unit {0}
IsOfStatement by Enters = ⊥
IsOfStatement by (Ends how) = ⊥

saved : (state : State) (number : ℕ) (statement : Bound) (reply : Reply) → SaveCases state number (IsOfStatement (blocker state number)) statement reply
saved state number statement reply = record { waits = λ by is. is; saves = λ free. tt }

of_statement : (setting : Setting) (state : State) (number : ℕ) (begun : Begun) (visited count : ℕ) (statement : Bound)
    → StatementCases setting state number begun (IsOfStatement (blocker state number)) visited count statement
of_statement setting state number begun visited count (Select tables ons pred items) = record { goes = λ few. tt; ends = tt }
of_statement setting state number begun visited count (Group table pred key aggregate) = record { goes = λ few. tt; ends = tt }
of_statement setting state number begun visited count (Insert table row) =
    record { checked = λ few. tt; twice = tt; takes = λ pos e. tt; goes = λ past e few. tt; full = λ past e all. tt }
of_statement setting state number begun visited count (Update table sets pred) =
    record { out = λ cause e. tt; goes = λ writes e few. tt; ends = λ writes e. tt }
of_statement setting state number begun visited count (Delete table pred) =
    record { out = λ cause e. tt; goes = λ writes e few. tt; ends = λ writes e. tt }
of_statement setting state number begun visited count (Savepoint name) = saved state number (Savepoint name) Saved
of_statement setting state number begun visited count (RollbackTo name) =
    record { goes = λ chunk e. tt; ends = λ none. saved state number (RollbackTo name) Back }
of_statement setting state number begun visited count (Release name) = saved state number (Release name) Released

pub statement_is : (setting : Setting) (state : State) (number : ℕ) (begun : Begun) (visited count : ℕ) (statement : Bound)
    → IsOfStatement (blocker state number) (statement_turn setting state number begun visited count statement)
statement_is setting state number begun visited count statement =
    statement_cases setting state number begun (IsOfStatement (blocker state number)) visited count statement
    (of_statement setting state number begun visited count statement)

-- ---- what closes a transaction

abbrev pub IsNotWorking : Phase → Type 0
IsNotWorking (Working visited count) = ⊥
IsNotWorking (Stamping visited) = Unit {0}
IsNotWorking (Undoing visited cause) = Unit {0}

-- such a turn goes on to no statement and answers none
abbrev pub IsClosing : Option Label → Turn Write → Type 0
IsClosing by Done = ⊥
IsClosing by (Waits other) = by ≡ Some other
IsClosing by Begins = ⊥
IsClosing by (Visits writes phase) = IsNotWorking phase
IsClosing by (Answers writes reply took records) = ⊥
IsClosing by (Saves statement reply) = ⊥
IsClosing by Enters = Unit {0}
IsClosing by (Ends how) = Unit {0}

pub undo_closes : (setting : Setting) (state : State) (number : ℕ) (begun : Begun) (visited : ℕ) (cause : Ending)
    → IsClosing (blocker state number) (undo_turn setting state number begun visited cause)
undo_closes setting state number begun visited cause =
    undo_cases setting state number begun (IsClosing (blocker state number)) visited cause
    (record { goes = λ few. tt; waits = λ by is. is; ends = λ free. tt })

pub stamp_closes : (setting : Setting) (state : State) (number : ℕ) (begun : Begun) (visited : ℕ)
    → IsClosing (blocker state number) (stamp_turn setting state begun visited)
stamp_closes setting state number begun visited =
    stamp_cases setting state number begun (IsClosing (blocker state number)) visited (λ few. tt) tt

pub closing_closes : (setting : Setting) (state : State) (number : ℕ) (begun : Begun) (commits : Bool)
    → IsClosing (blocker state number) (closing_turn setting state number begun commits)
closing_closes setting state number begun true =
    commit_cases setting state number begun (IsClosing (blocker state number))
    (record { waits = λ by is. is; reads = λ free nothing. tt; enters = λ free some e. tt; out = λ some cause e. tt })
closing_closes setting state number begun false = undo_closes setting state number begun 0 RolledBack

-- ---- whatever it does

-- an open transaction doesn't begin, nor idles but where it waits for the one that is in the way
abbrev pub IsOfOpen : Option Label → Turn Write → Type 0
IsOfOpen by Done = ⊥
IsOfOpen by (Waits other) = by ≡ Some other
IsOfOpen by Begins = ⊥
IsOfOpen by (Visits writes phase) = Unit {0}
IsOfOpen by (Answers writes reply took records) = Unit {0}
IsOfOpen by (Saves statement reply) = Unit {0}
IsOfOpen by Enters = Unit {0}
IsOfOpen by (Ends how) = Unit {0}

stated_open : (by : Option Label) (turn : Turn Write) → IsOfStatement by turn → IsOfOpen by turn
stated_open by Done s = s
stated_open by (Waits other) s = s
stated_open by Begins s = s
stated_open by (Visits writes phase) s = tt
stated_open by (Answers writes reply took records) s = tt
stated_open by (Saves statement reply) s = tt
stated_open by Enters s = absurd s
stated_open by (Ends how) s = absurd s

closed_open : (by : Option Label) (turn : Turn Write) → IsClosing by turn → IsOfOpen by turn
closed_open by Done c = c
closed_open by (Waits other) c = c
closed_open by Begins c = c
closed_open by (Visits writes phase) c = tt
closed_open by (Answers writes reply took records) c = absurd c
closed_open by (Saves statement reply) c = absurd c
closed_open by Enters c = tt
closed_open by (Ends how) c = tt

working_open : (setting : Setting) (state : State) (number : ℕ) (txn : Txn) (begun : Begun) (visited count : ℕ) (statement : Option Bound)
    → IsOfOpen (blocker state number) (working_turn setting state number txn begun visited count statement)
working_open setting state number txn begun visited count None =
    closed_open (blocker state number) (closing_turn setting state number begun txn.commits) (closing_closes setting state number begun txn.commits)
working_open setting state number txn begun visited count (Some statement) =
    stated_open (blocker state number) (statement_turn setting state number begun visited count statement)
    (statement_is setting state number begun visited count statement)

pub phase_open : (setting : Setting) (state : State) (number : ℕ) (txn : Txn) (begun : Begun) (phase : Phase)
    → IsOfOpen (blocker state number) (phase_turn setting state number txn begun phase)
phase_open setting state number txn begun (Working visited count) =
    working_open setting state number txn begun visited count (slice_get txn.statements (length begun.replies))
phase_open setting state number txn begun (Stamping visited) =
    closed_open (blocker state number) (stamp_turn setting state begun visited) (stamp_closes setting state number begun visited)
phase_open setting state number txn begun (Undoing visited cause) =
    closed_open (blocker state number) (undo_turn setting state number begun visited cause) (undo_closes setting state number begun visited cause)
