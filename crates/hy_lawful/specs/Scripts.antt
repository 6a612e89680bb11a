-- The transactions of a script, by their labels.
use Rattle.std.specs.Prelude.{ℕ, zero, suc, List, [], ◌∷◌, ◌++◌, Option, None, Some, slice_index_or, slice_get, IsTrue, not}
use Rattle.hy_bound.specs.declared.Txn.{Txn}
use Rattle.hy_bound.specs.declared.Bound.{Bound}
use Rattle.hy_stamp.specs.declared.Label.{Label}

-- the transactions of a script, by session
abbrev pub Programs : Type 0
Programs = List (List Txn)

-- the transaction of this number among these, the first of which has number 1
abbrev pub numbered : List Txn → ℕ → Option Txn
numbered txns zero = None
numbered txns (suc before) = slice_get txns before

-- the transaction of this label, if the script has it
abbrev pub txn_of : Programs → Label → Option Txn
txn_of programs label = numbered (slice_index_or programs label.session []) label.txn

abbrev pub statements_in : Option Txn → List Bound
statements_in None = []
statements_in (Some txn) = txn.statements

-- the statements of the transaction of this label
abbrev pub statements_of : Programs → Label → List Bound
statements_of programs label = statements_in (txn_of programs label)

-- whether a transaction closes with COMMIT, or with ROLLBACK
abbrev pub ClosesWithCommit : Option Txn → Type 0
ClosesWithCommit None = ⊥
ClosesWithCommit (Some txn) = IsTrue txn.commits

abbrev pub ClosesWithRollback : Option Txn → Type 0
ClosesWithRollback None = ⊥
ClosesWithRollback (Some txn) = IsTrue (not txn.commits)

-- the labels of a session's transactions, the first of them having this number
abbrev pub labels_of : ℕ → ℕ → List Txn → List Label
labels_of session number [] = []
labels_of session number (txn ∷ txns) = record { session = session; txn = number } ∷ labels_of session (suc number) txns

-- the labels of a script's transactions, by session and then number, the first session having this number
abbrev pub labels_from : ℕ → Programs → List Label
labels_from session [] = []
labels_from session (txns ∷ programs) = labels_of session 1 txns ++ labels_from (suc session) programs
