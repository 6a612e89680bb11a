-- A step reads the scripts only at the acting session's transaction.
use Rattle.std.proofs.Common.{◌≡◌, ℕ, List, ap}
use Rattle.hy_bound.specs.declared.Txn.{Txn}
use Rattle.hy_machine.specs.declared.Setting.{Setting}
use Rattle.hy_machine.specs.States.{State}
use Rattle.hy_machine.specs.Sessions.{session_at, txn_at}
use Rattle.hy_machine.specs.Turns.{session_turn}
use Rattle.hy_machine.specs.Steps.{after_turn, step_of}
use Rattle.hy_growing.specs.Growing.{with_programs}

-- it is the same step in both settings where the turns are the same: nothing else of a step reads the scripts
pub same_step : (setting : Setting) (programs : List (List Txn)) (state : State) (number : ℕ)
    → session_turn setting state number (txn_at (with_programs setting programs) number (session_at state number)) (session_at state number).now
    ≡ session_turn setting state number (txn_at setting number (session_at state number)) (session_at state number).now
    → step_of (with_programs setting programs) state number ≡ step_of setting state number
same_step setting programs state number e = ap (after_turn setting state number) e
