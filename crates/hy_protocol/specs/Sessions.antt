-- What a session does next, by where it stands.
use Rattle.std.specs.Prelude.{ℕ, Option, None, Some, slice_get}
use Rattle.hy_bound.specs.declared.Bound.{Bound}
use Rattle.hy_bound.specs.declared.Txn.{Txn}
use Rattle.hy_stamp.specs.declared.Label.{Label}
use Rattle.hy_protocol.specs.declared.Phase.{Phase}
use Rattle.hy_protocol.specs.declared.Phase.TheVariants.{Working, Stamping, Undoing}
use Rattle.hy_protocol.specs.Asking.{AtCore}
use Rattle.hy_protocol.specs.Closing.{undo_turn, stamp_turn, closing_turn}
use Rattle.hy_protocol.specs.Turns.{Turn, Done, Begins, unless_blocked}

-- a visit of the present statement, or what closes the transaction where all are answered
abbrev pub working_turn : {W : Type 0} → (ℕ → ℕ → Bound → Turn W) → AtCore → Txn → ℕ → ℕ → Option Bound → Turn W
working_turn of_statement core txn visited count None = closing_turn core txn.commits
working_turn of_statement core txn visited count (Some statement) = of_statement visited count statement

-- what an open transaction does that has answered so many of its statements, by where it stands and by what it does in a
-- visit of a statement
abbrev pub phase_turn : {W : Type 0} → (ℕ → ℕ → Bound → Turn W) → AtCore → Txn → ℕ → Phase → Turn W
phase_turn of_statement core txn answered (Working visited count) =
    working_turn of_statement core txn visited count (slice_get txn.statements answered)
phase_turn of_statement core txn answered (Stamping visited) = stamp_turn core.written core.last visited
phase_turn of_statement core txn answered (Undoing visited cause) = undo_turn core visited cause

-- what a session does that is at this transaction of its script, which is open or not, by who is in its way and by what
-- an open one does
abbrev pub session_turn : {W T : Type 0} → Option Label → (Txn → T → Turn W) → Option Txn → Option T → Turn W
session_turn blocked of_open None now = Done
session_turn blocked of_open (Some txn) None = unless_blocked blocked Begins
session_turn blocked of_open (Some txn) (Some current) = of_open txn current
