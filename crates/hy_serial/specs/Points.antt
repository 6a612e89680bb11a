-- Where every transaction stands in the serial order, however it ended.
use Rattle.std.specs.Prelude.{ℕ, ◌<◌, ◌≤◌, IfSome, length}
use Rattle.std.specs.List.{AllByRecursion}
use Rattle.std.specs.Option.{unwrap_or}
use Rattle.hy_render.specs.declared.TxnOutcome.{TxnOutcome}
use Rattle.hy_render.specs.declared.Outcome.{Outcome}
use Rattle.hy_machine.specs.declared.Setting.{Setting}
use Rattle.hy_lawful.specs.Outcomes.{committed_at, later_than}
use Rattle.hy_lawful.specs.Databases.{alone_at}
use Rattle.hy_lawful.specs.Lawful.{Lawful}
use Rattle.hy_lawful.specs.Serial.{IsSerial, AreFirstOf}

-- the point of a transaction in the serial order: its rank where it committed, its start where it did not
abbrev pub point_of : TxnOutcome → ℕ
point_of txn = unwrap_or (committed_at txn.ending) txn.start

-- a transaction is as if it had run at its point, alone
pub record HasItsPoint (setting : Setting) (outcome : Outcome) (txn : TxnOutcome) : Type 0 where
  -- its point lies no earlier than its start, and within the order
  pub began : txn.start ≤ point_of txn
  pub within : point_of txn ≤ length outcome.order
  -- its replies are the first of those that it gets alone there
  pub told : AreFirstOf txn.replies (alone_at setting outcome.order txn.label (point_of txn)).replies
  -- the later transactions of its session start there or behind it, and so have their points in the session's order
  pub later : AllByRecursion (λ (later : TxnOutcome). point_of txn ≤ later.start) (later_than outcome txn)
  -- and where it committed they start behind its commit, so that a session sees what it did
  pub seen : AllByRecursion (λ (later : TxnOutcome). IfSome (committed_at txn.ending) (λ (rank : ℕ). rank < later.start)) (later_than outcome txn)

-- every transaction has its point, the refused ones too: all that was told fits one serial order, which is that of each
-- session for the session's transactions
abbrev pub EveryTransactionHasItsPoint : Type 0
EveryTransactionHasItsPoint = (setting : Setting) (outcome : Outcome) → Lawful setting outcome → IsSerial setting outcome
    → AllByRecursion (HasItsPoint setting outcome) outcome.txns
