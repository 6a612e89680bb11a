-- A visit of a session to the part that it needs is the machine's step.
use Rattle.std.specs.Prelude.{◌≡◌, ℕ, List, Option, None, Some, slice_get, length, map}
use Rattle.hy_bound.specs.declared.Bound.{Bound}
use Rattle.hy_bound.specs.declared.Bound.TheVariants.{Select, Group, Insert, Update, Delete, Savepoint, RollbackTo, Release}
use Rattle.hy_bound.specs.Records.{shape_of}
use Rattle.hy_bound.specs.Agreement.{FitTable, FitTables, HaveTheirKeys}
use Rattle.hy_bound.specs.declared.Txn.{Txn}
use Rattle.hy_stamp.specs.Times.{IsLabel}
use Rattle.hy_event.specs.declared.SessionData.{SessionData}
use Rattle.hy_event.specs.Sessions.{label_of, txn_at as txn_here}
use Rattle.hy_protocol.specs.declared.Progress.{Progress}
use Rattle.hy_event.specs.Needs.{need_of}
use Rattle.hy_event.specs.Events.{Part, part_number, NeededVisit}
use Rattle.hy_machine.specs.declared.Setting.{Setting}
use Rattle.hy_machine.specs.States.{State, Open as MachineOpen}
use Rattle.hy_machine.specs.Tables.{Tables}
use Rattle.hy_machine.specs.Sessions.{session_at, txn_at, view}
use Rattle.hy_machine.specs.Turns.{turn, rows_seen}
use Rattle.hy_machine.specs.Kept.{IsNow}
use Rattle.hy_refinement.specs.Sessions.{statement_at}
use Rattle.hy_refinement.specs.Taken.{ShownState, IsTaken}

-- what a SELECT sees in its tables are rows of their columns, and the keys of these tables are columns
abbrev pub ReadsFit : Setting → Tables → Option Bound → Type 0
ReadsFit setting seen None = Unit {0}
ReadsFit setting seen (Some (Select tables ons pred items)) =
    FitTables setting.shapes tables (map (rows_seen seen) tables) × HaveTheirKeys setting.shapes tables
ReadsFit setting seen (Some (Group table pred key aggregate)) = FitTable (shape_of setting.shapes table) (rows_seen seen table)
ReadsFit setting seen (Some (Insert table row)) = Unit {0}
ReadsFit setting seen (Some (Update table sets pred)) = Unit {0}
ReadsFit setting seen (Some (Delete table pred)) = Unit {0}
ReadsFit setting seen (Some (Savepoint name)) = Unit {0}
ReadsFit setting seen (Some (RollbackTo name)) = Unit {0}
ReadsFit setting seen (Some (Release name)) = Unit {0}

-- so it is for the present statement of every open transaction
abbrev pub ViewsFit : Setting → State → Type 0
ViewsFit setting state = (number : ℕ) (current : MachineOpen) → IsNow state number current
    → ReadsFit setting (view setting state current.begun)
    (statement_at (txn_at setting number (session_at state number)) (length current.begun.replies))

-- a session that is at a transaction of its program has a label for it
abbrev pub HasLabel : SessionData → Type 0
HasLabel session = (txn : Txn) → txn_here session ≡ Some txn → IsLabel (label_of session)

-- a visit of a session to the part that it needs is the turn that the machine takes for it
abbrev pub EventsAreSteps : Type 0
EventsAreSteps =
    (setting : Setting) (state : State) (parts : List Part) (sessions : List SessionData) (number : ℕ) (session : SessionData)
    (part : ℕ) (old : Part) (progress : Progress) (after : SessionData) (new : Part)
    → ShownState setting state parts sessions → ViewsFit setting state → HasLabel session
    → slice_get sessions number ≡ Some session → slice_get parts part ≡ Some old
    → part_number session (need_of session) ≡ Some part → NeededVisit (need_of session) session old progress after new
    → IsTaken setting state parts sessions number (turn setting state number) part progress after new
