-- The transaction of a label in an outcome: what is said of all transactions holds of it.
use Rattle.std.proofs.Common.{◌≡◌, ℕ, Some, true, ap, ◌∙◌}
use Rattle.std.specs.List.{AllByRecursion}
use Rattle.std.specs.Prelude.{◌==◌}
use Rattle.std.proofs.lemmas.Bool.{eqb-true}
use Rattle.hy_stamp.specs.declared.Label.{Label}
use Rattle.hy_render.specs.declared.TxnOutcome.{TxnOutcome}
use Rattle.hy_render.specs.declared.Outcome.{Outcome}
use Rattle.hy_lawful.specs.Outcomes.{is_label, outcome_at}
use Rattle.hy_serial.proofs.Items.{and_left, and_right, all_of, found}

abbrev labelled : ℕ → ℕ → Label
labelled session txn = record { session = session; txn = txn }

same_label : (label other : Label) → is_label label other ≡ true → label ≡ other
same_label label other e =
    ap (λ (session : ℕ). labelled session label.txn)
    (eqb-true label.session other.session (and_left (label.session == other.session) (label.txn == other.txn) e))
    ∙ ap (labelled other.session) (eqb-true label.txn other.txn (and_right (label.session == other.session) (label.txn == other.txn) e))

pub printed_so : (P : TxnOutcome → Type 0) (outcome : Outcome) → AllByRecursion P outcome.txns → (label : Label) (txn : TxnOutcome)
    → outcome_at outcome label ≡ Some txn → P txn
printed_so P outcome h label txn e = (found P (λ (other : TxnOutcome). is_label other.label label) outcome.txns h txn e).holds

pub has_label : (outcome : Outcome) (label : Label) (txn : TxnOutcome) → outcome_at outcome label ≡ Some txn → txn.label ≡ label
has_label outcome label txn e =
    let Any : TxnOutcome → Type 0 = λ (other : TxnOutcome). Unit {0} in
    same_label txn.label label
    (found Any (λ (other : TxnOutcome). is_label other.label label) outcome.txns (all_of Any outcome.txns (λ other. tt)) txn e).passes
