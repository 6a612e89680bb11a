-- The state after a transaction entered the journal, and what is open then.
use Rattle.std.proofs.Common.{◌≡◌, ℕ, ◌≤◌, List, [], ◌∷◌, ◌++◌, length, Some, ap}
use Rattle.std.proofs.lemmas.List.{take-append-le}
use Rattle.hy_event.specs.declared.SessionData.{SessionData}
use Rattle.hy_event.specs.declared.Open.{Open}
use Rattle.hy_protocol.specs.declared.Phase.TheVariants as phase
use Rattle.hy_event.specs.Sessions.{written}
use Rattle.hy_machine.specs.declared.Setting.{Setting}
use Rattle.hy_machine.specs.States.{State, Open as MachineOpen}
use Rattle.hy_machine.specs.Tables.{opening_tables, history}
use Rattle.hy_machine.specs.Sessions.{snapshot, entry_of}
use Rattle.hy_refinement.specs.Transactions.{IsOpen}
use Rattle.hy_refinement.specs.Frames.{gone_on}

-- the open transaction that entered, at this time
abbrev pub entered_here : ℕ → Open → Open
entered_here time now = record now { notes = []; saved = []; wrote = written now; time = time; phase = phase.Stamping 0 }

abbrev pub entered_there : MachineOpen → MachineOpen
entered_there current = record { begun = current.begun; phase = phase.Stamping 0 }

-- the state with one more entry, the session of which is marked
abbrev pub with_entry_of : Setting → State → ℕ → MachineOpen → State
with_entry_of setting state number current = record {
  order = state.order ++ entry_of setting state number current.begun ∷ [];
  mark = Some number;
  sessions = (gone_on state number (entered_there current)).sessions;
}

-- what the first entries leave is what it was
pub snapshot_before : (setting : Setting) (state : State) (number : ℕ) (current : MachineOpen) (prefix : ℕ) → prefix ≤ length state.order
    → snapshot setting (with_entry_of setting state number current) prefix ≡ snapshot setting state prefix
snapshot_before setting state number current prefix within =
    ap (history (opening_tables setting)) (take-append-le prefix state.order (entry_of setting state number current.begun ∷ []) within)

-- which transactions are open doesn't hang on the entries
pub open_gone : (setting : Setting) (state : State) (sessions : List SessionData) (number : ℕ) (current : MachineOpen)
    (other : ℕ) (one : SessionData) (present : Open) (there : MachineOpen)
    → IsOpen (with_entry_of setting state number current) sessions other one present there
    → IsOpen (gone_on state number (entered_there current)) sessions other one present there
open_gone setting state sessions number current other one present there open' =
    record { found = open'.found; open_here = open'.open_here; open_there = open'.open_there }

pub open_entered : (setting : Setting) (state : State) (sessions : List SessionData) (number : ℕ) (current : MachineOpen)
    (other : ℕ) (one : SessionData) (present : Open) (there : MachineOpen)
    → IsOpen (gone_on state number (entered_there current)) sessions other one present there
    → IsOpen (with_entry_of setting state number current) sessions other one present there
open_entered setting state sessions number current other one present there open' =
    record { found = open'.found; open_here = open'.open_here; open_there = open'.open_there }
