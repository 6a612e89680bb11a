-- The script that is made from a number: sessions of transfers between accounts, with audits among them.
use Rattle.std.specs.Prelude.{ℕ, zero, suc, ◌+◌, List, [], ◌∷◌, ◌++◌, codes}
use Rattle.std.specs.Fmt.{decimal}
use Rattle.hy_script.specs.declared.NamedTxns.{NamedTxns}
use Rattle.hy_script.specs.declared.Script.{Script}
use Rattle.hy_gen.specs.Accounts.{account_table, first_rows}
use Rattle.hy_gen.specs.Transactions.{txns_from, state_after_txns}

-- the name of a session, s1 for the first
abbrev pub session_name : ℕ → List ℕ
session_name number = codes "s" ++ decimal number

-- so many sessions of so many transactions, from this session number and this state on
unfoldable pub sessions_from : ℕ → ℕ → ℕ → ℕ → List NamedTxns
sessions_from txns number zero state = []
sessions_from txns number (suc count) state =
    record { name = session_name number; txns = txns_from txns state } ∷ sessions_from txns (number + 1) count (state_after_txns txns state)

-- the script: the generator begins at the seed
unfoldable pub made : ℕ → ℕ → ℕ → Script
made seed sessions txns = record {
  catalog = account_table ∷ [];
  rows = first_rows ∷ [];
  sessions = sessions_from txns 1 sessions seed;
  schedule = [];
  options = record { chunks = 4; rows = 16 };
}
