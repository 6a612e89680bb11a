-- How many steps the sessions have left at most.
use Rattle.std.specs.Prelude.{ℕ, suc, ◌+◌, ◌-◌, ◌*◌, List, [], ◌∷◌, Option, None, Some, length, drop}
use Rattle.hy_bound.specs.declared.Txn.{Txn}
use Rattle.hy_bound.specs.declared.Bound.{Bound}
use Rattle.hy_machine.specs.declared.Setting.{Setting}
use Rattle.hy_protocol.specs.declared.Phase.{Phase}
use Rattle.hy_protocol.specs.declared.Phase.TheVariants.{Working, Stamping, Undoing}
use Rattle.hy_machine.specs.States.{State, Session, Open, Begun}
use Rattle.hy_machine.specs.Visits.{visits_of}
use Rattle.hy_machine.specs.Sessions.{program_of}

-- the steps that are left of statements, so many visits of the first of them being done
abbrev pub statements_left : Setting → ℕ → List Bound → ℕ
statements_left setting visited [] = 0
statements_left setting visited (statement ∷ statements) =
    suc (visits_of setting statement - visited) + statements_left setting 0 statements

-- the chunks of the tables that a transaction may write in
abbrev pub parts_of : Setting → Begun → ℕ
parts_of setting begun = setting.chunks * length begun.own

-- the steps that are left of an open transaction: visits of its statements, what closes it, and a stamp or an undo
-- for each chunk
abbrev pub open_left : Setting → Txn → Begun → Phase → ℕ
open_left setting txn begun (Working visited count) =
    suc (suc (parts_of setting begun + statements_left setting visited (drop (length begun.replies) txn.statements)))
open_left setting txn begun (Stamping visited) = suc (parts_of setting begun - visited)
open_left setting txn begun (Undoing visited cause) = suc (parts_of setting begun - visited)

-- the steps of a transaction to come: its BEGIN first
abbrev pub txn_left : Setting → Txn → ℕ
txn_left setting txn = suc (suc (suc (setting.chunks * length setting.first + statements_left setting 0 txn.statements)))

-- the steps of transactions to come
abbrev pub later_left : Setting → List Txn → ℕ
later_left setting [] = 0
later_left setting (txn ∷ txns) = txn_left setting txn + later_left setting txns

-- the steps that are left of the transactions that a session's script still has, the first of which may be open
abbrev pub txns_left : Setting → Option Open → List Txn → ℕ
txns_left setting now [] = 0
txns_left setting None (txn ∷ txns) = txn_left setting txn + later_left setting txns
txns_left setting (Some current) (txn ∷ txns) = open_left setting txn current.begun current.phase + later_left setting txns

-- the steps that a session has left
abbrev pub steps_left : Setting → ℕ → Session → ℕ
steps_left setting number session = txns_left setting session.now (drop (length session.done) (program_of setting number))

-- the steps that sessions have left, the first of them having this number
abbrev pub all_left : Setting → ℕ → List Session → ℕ
all_left setting number [] = 0
all_left setting number (session ∷ sessions) = steps_left setting number session + all_left setting (suc number) sessions

-- the steps that all sessions have left
abbrev pub measure_of : Setting → State → ℕ
measure_of setting state = all_left setting 0 state.sessions
