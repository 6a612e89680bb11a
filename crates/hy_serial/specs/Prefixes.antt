-- That replies depend on the commits before a transaction's start, and on nothing else that others did.
use Rattle.std.specs.Prelude.{◌≡◌, ℕ, List, take, map, ◌⊎◌}
use Rattle.std.specs.List.{AllByRecursion}
use Rattle.hy_stamp.specs.declared.Label.{Label}
use Rattle.hy_render.specs.declared.TxnOutcome.{TxnOutcome}
use Rattle.hy_render.specs.declared.Committed.{Committed as Entry}
use Rattle.hy_render.specs.declared.Outcome.{Outcome}
use Rattle.hy_machine.specs.declared.Setting.{Setting}
use Rattle.hy_lawful.specs.Lawful.{Lawful}
use Rattle.hy_lawful.specs.Serial.{IsSerial, AreFirstOf}

-- the transactions of a commit order, and those that committed before a rank
abbrev pub labels_in : List Entry → List Label
labels_in order = map (λ (entry : Entry). entry.label) order

abbrev pub committed_before : List Entry → ℕ → List Label
committed_before order rank = labels_in (take rank order)

-- one transaction in two outcomes, which has the same commits before its start in both
pub record StartsAlike (outcome : Outcome) (txn : TxnOutcome) (other : Outcome) (again : TxnOutcome) : Type 0 where
  pub label : txn.label ≡ again.label
  pub before : committed_before outcome.order txn.start ≡ committed_before other.order again.start

-- it is told the same in both, as far as it got: the replies of the one are the first of those of the other
abbrev pub AreToldAlike : TxnOutcome → TxnOutcome → Type 0
AreToldAlike txn again = AreFirstOf txn.replies again.replies ⊎ AreFirstOf again.replies txn.replies

-- so whatever others wrote that was rolled back, or refused, or committed later, nobody is told anything of it
abbrev pub RepliesAreOfCommitsBefore : Type 0
RepliesAreOfCommitsBefore = (setting : Setting) (outcome other : Outcome) → Lawful setting outcome → IsSerial setting outcome
    → Lawful setting other → IsSerial setting other
    → AllByRecursion (λ (txn : TxnOutcome). AllByRecursion (λ (again : TxnOutcome). StartsAlike outcome txn other again → AreToldAlike txn again)
    other.txns) outcome.txns

-- and the printed tables depend on the order in which transactions committed, and on nothing else
abbrev pub TablesAreOfTheOrder : Type 0
TablesAreOfTheOrder = (setting : Setting) (outcome other : Outcome) → Lawful setting outcome → IsSerial setting outcome
    → Lawful setting other → IsSerial setting other → labels_in outcome.order ≡ labels_in other.order → outcome.tables ≡ other.tables
