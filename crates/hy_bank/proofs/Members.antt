-- The transactions of a script that is made are the bank's.
use Rattle.std.proofs.Common.{◌≢◌, ℕ, zero, suc, ◌+◌, ◌%◌, ◌<◌, ◌≤◌, Bool, true, false, cond, arith}
use Rattle.std.specs.List.{AllByRecursion}
use Rattle.hy_bound.specs.declared.Txn.{Txn}
use Rattle.hy_script.specs.declared.NamedTxns.{NamedTxns}
use Rattle.hy_gen.specs.declared.transactions.Transfer.{Transfer}
use Rattle.hy_gen.specs.Draws.{next_state, drawn}
use Rattle.hy_gen.specs.Transactions.{audit, transfer, transfer_by, transfer_from, txn_from, is_audit, state_after_txn, state_after_txns, txns_from}
use Rattle.hy_gen.specs.Made.{sessions_from, made}
use Rattle.hy_bank.specs.Bank.{IsAccount, IsOfBank, audits, transfers, AreOfBank}

-- the account that is drawn, and the one behind it, are among 64
drawn_account : (number : ℕ) → IsAccount (1 + number % 64)
drawn_account number = (omega arith, omega arith)

-- 1 to 63 accounts behind an account stands another one
behind_differs : (source far : ℕ) → source ≤ 64 → 1 ≤ source → far < 63 → source ≢ 1 + (source + far) % 64
behind_differs source far few some below same = absurd (omega (arith, same))

transfer_of_bank : (first second third : ℕ) → IsOfBank (transfer (transfer_by first second third)).statements
transfer_of_bank first second third =
    transfers (transfer_by first second third) (drawn_account first) (drawn_account (1 + first % 64 + second % 63))
    (behind_differs (1 + first % 64) (second % 63) (omega arith) (omega arith) (omega arith))

drawn_of_bank : (state : ℕ) → IsOfBank (transfer (transfer_from state)).statements
unfolding transfer_from
drawn_of_bank state = transfer_of_bank (drawn state) (drawn (next_state state)) (drawn (next_state (next_state state)))

either_of_bank : (audited : Bool) (parts : Transfer) → IsOfBank (transfer parts).statements → IsOfBank (cond audited audit (transfer parts)).statements
either_of_bank true parts h = audits
either_of_bank false parts h = h

txn_of_bank : (state : ℕ) → IsOfBank (txn_from state).statements
unfolding txn_from
txn_of_bank state = either_of_bank (is_audit state) (transfer_from (next_state state)) (drawn_of_bank (next_state state))

txns_of_bank : (count state : ℕ) → AllByRecursion (λ (txn : Txn). IsOfBank txn.statements) (txns_from count state)
unfolding txns_from
txns_of_bank zero state = tt
txns_of_bank (suc count) state = (txn_of_bank state, txns_of_bank count (state_after_txn state))

sessions_of_bank : (txns number count state : ℕ)
    → AllByRecursion (λ (session : NamedTxns). AllByRecursion (λ (txn : Txn). IsOfBank txn.statements) session.txns) (sessions_from txns number count state)
unfolding sessions_from
sessions_of_bank txns number zero state = tt
sessions_of_bank txns number (suc count) state = (txns_of_bank txns state, sessions_of_bank txns (number + 1) count (state_after_txns txns state))

pub made_of_bank : (seed sessions txns : ℕ) → AreOfBank (made seed sessions txns)
unfolding made
made_of_bank seed sessions txns = sessions_of_bank txns 1 sessions seed
