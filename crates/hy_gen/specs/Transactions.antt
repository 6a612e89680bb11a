-- The transactions that are made, each from the state of the generator at which it begins.
use Rattle.std.specs.Prelude.{ℕ, zero, suc, ◌+◌, ◌%◌, Bool, true, false, ◌==◌, List, [], ◌∷◌, if◌then◌else◌}
use Rattle.hy_bound.specs.declared.Txn.{Txn}
use Rattle.hy_gen.specs.declared.transactions.Transfer.{Transfer}
use Rattle.hy_gen.specs.Draws.{next_state, drawn}
use Rattle.hy_gen.specs.Accounts.{select_total, select_balance, withdraw, deposit}

-- an audit: BEGIN READ ONLY; SELECT SUM(bal) FROM acc; COMMIT
abbrev pub audit : Txn
audit = record { read_only = true; statements = select_total ∷ []; commits = true }

-- a transfer: BEGIN; the balance that it comes from; both updates; COMMIT
abbrev pub transfer : Transfer → Txn
transfer parts = record {
  read_only = false;
  statements = select_balance parts.source ∷ withdraw parts.amount parts.source ∷ deposit parts.amount parts.target ∷ [];
  commits = true;
}

-- its parts, from what is drawn for its source, for how far its target is from there, and for its amount
abbrev pub transfer_by : ℕ → ℕ → ℕ → Transfer
transfer_by first second third = let source = 1 + first % 64 in
    record { source = source; target = 1 + (source + second % 63) % 64; amount = 1 + third % 100 }

-- the transfer whose parts are drawn from a state on
unfoldable pub transfer_from : ℕ → Transfer
transfer_from state = let second = next_state state in transfer_by (drawn state) (drawn second) (drawn (next_state second))

-- whether the transaction from a state is an audit, as one in four is
unfoldable pub is_audit : ℕ → Bool
is_audit state = drawn state % 4 == 0

-- the transaction from a state, and the state behind its draws: one, and for a transfer three more
unfoldable pub txn_from : ℕ → Txn
txn_from state = if is_audit state then audit else transfer (transfer_from (next_state state))

unfoldable pub state_after_txn : ℕ → ℕ
state_after_txn state = if is_audit state then next_state state else next_state (next_state (next_state (next_state state)))

-- so many transactions, one after another from a state on, and the state behind them
unfoldable pub txns_from : ℕ → ℕ → List Txn
txns_from zero state = []
txns_from (suc count) state = txn_from state ∷ txns_from count (state_after_txn state)

unfoldable pub state_after_txns : ℕ → ℕ → ℕ
state_after_txns zero state = state
state_after_txns (suc count) state = state_after_txns count (state_after_txn state)
