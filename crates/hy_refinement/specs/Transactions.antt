-- The open transactions, as the engine has them and as the machine has them.
use Rattle.std.specs.Prelude.{◌≡◌, ℕ, List, Some, slice_get}
use Rattle.hy_event.specs.declared.SessionData.{SessionData}
use Rattle.hy_event.specs.declared.Open.{Open}
use Rattle.hy_machine.specs.States.{State, Open as MachineOpen}
use Rattle.hy_machine.specs.Sessions.{session_at}

-- a session has an open transaction, in the engine and in the machine
pub record IsOpen (state : State) (sessions : List SessionData) (number : ℕ) (session : SessionData) (now : Open) (current : MachineOpen) : Type 0 where
  pub found : slice_get sessions number ≡ Some session
  pub open_here : session.now ≡ Some now
  pub open_there : (session_at state number).now ≡ Some current

-- something holds of every open transaction
abbrev pub OfOpen : State → List SessionData → (ℕ → SessionData → Open → MachineOpen → Type 0) → Type 0
OfOpen state sessions holds =
    (number : ℕ) (session : SessionData) (now : Open) (current : MachineOpen) → IsOpen state sessions number session now current
    → holds number session now current
