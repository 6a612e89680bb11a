-- What an outcome tells of its transactions: how the one of a label ended, which of its statements it answered, which
-- came after it in its session.
use Rattle.std.specs.Prelude.{ℕ, suc, List, [], ◌∷◌, Bool, ◌&&◌, ◌==◌, nat_lt, Option, None, Some, filter, find, length, slice_get}
use Rattle.hy_bound.specs.declared.Bound.{Bound}
use Rattle.hy_stamp.specs.declared.Label.{Label}
use Rattle.hy_bound.specs.declared.Ending.{Ending}
use Rattle.hy_bound.specs.declared.Ending.TheVariants.{Committed, Read, RolledBack, Conflict, Invalid, Range, Full}
use Rattle.hy_render.specs.declared.TxnOutcome.{TxnOutcome}
use Rattle.hy_render.specs.declared.Outcome.{Outcome}
use Rattle.hy_lawful.specs.Scripts.{Programs, statements_of}

-- P holds of each item with its number, the first having this number
abbrev pub EachFrom : {X : Type 0} → ℕ → (ℕ → X → Type 0) → List X → Type 0
EachFrom number P [] = Unit {0}
EachFrom number P (x ∷ xs) = P number x × EachFrom (suc number) P xs

-- whether two labels are the same
abbrev pub is_label : Label → Label → Bool
is_label label other = label.session == other.session && label.txn == other.txn

-- what the transaction of this label came to
abbrev pub outcome_at : Outcome → Label → Option TxnOutcome
outcome_at outcome label = find (λ (txn : TxnOutcome). is_label txn.label label) outcome.txns

-- the statement after those that a transaction answered: the refused one, if one was refused
abbrev pub refused_statement : Programs → TxnOutcome → Option Bound
refused_statement programs txn = slice_get (statements_of programs txn.label) (length txn.replies)

-- the rank of the commit order at which a transaction ended, if it did at one
abbrev pub committed_at : Ending → Option ℕ
committed_at (Committed rank) = Some rank
committed_at Read = None
committed_at RolledBack = None
committed_at (Conflict table pos other) = None
committed_at (Invalid table pos other statement) = None
committed_at (Range table pos) = None
committed_at (Full table) = None

-- the later transactions of a transaction's session
abbrev pub is_later : Label → TxnOutcome → Bool
is_later label txn = txn.label.session == label.session && nat_lt label.txn txn.label.txn

abbrev pub later_than : Outcome → TxnOutcome → List TxnOutcome
later_than outcome txn = filter (is_later txn.label) outcome.txns
