-- A transaction has the rank at which it committed, and ends as one may.
use Rattle.std.proofs.Common.{ℕ, ◌≤◌, List, Option, map, sym, ◌∙◌}
use Rattle.std.proofs.Common.{subst}
use Rattle.std.specs.Prelude.{◌==◌, IfSome, IsFalse}
use Rattle.std.specs.Option.{IsSomeAnd}
use Rattle.hy_bound.specs.declared.Ending.{Ending}
use Rattle.hy_bound.specs.declared.Ending.TheVariants.{Committed, Read, RolledBack, Conflict, Invalid, Range, Full}
use Rattle.hy_render.specs.declared.TxnOutcome.{TxnOutcome}
use Rattle.hy_machine.specs.declared.Setting.{Setting}
use Rattle.hy_machine.specs.States.{State}
use Rattle.hy_machine.specs.Tables.{Entry}
use Rattle.hy_machine.specs.Validation.{committed_of}
use Rattle.hy_machine.specs.Outcomes.{outcome_of}
use Rattle.hy_lawful.specs.Outcomes.{committed_at}
use Rattle.hy_lawful.specs.Endings.{MayEnd}
use Rattle.hy_lawful.specs.Lawful.{StandsAt}
use Rattle.hy_lawful.proofs.Fits.{Ends}
use Rattle.hy_lawful.proofs.Outcomes.{label_committed}
use Rattle.hy_lawful.proofs.Over.{IsOver, HasEnded, HasCommitted, txn_ended, entry_committed, outcome_has}

pub stands_at : (setting : Setting) (order : List Entry) (txn : TxnOutcome) (ending : Ending) → Ends setting order txn ending
    → IfSome (committed_at ending) (StandsAt (map committed_of order) txn)
stands_at setting order txn (Committed rank) h = record { later = h.later; stands = label_committed order rank ∙ h.stands }
stands_at setting order txn Read h = tt
stands_at setting order txn RolledBack h = tt
stands_at setting order txn (Conflict table pos other) h = tt
stands_at setting order txn (Invalid table pos other statement) h = tt
stands_at setting order txn (Range table pos) h = tt
stands_at setting order txn (Full table) h = tt

pub may_end : (setting : Setting) (state : State) → IsOver setting state → (txn : TxnOutcome) (ending : Ending) → Ends setting state.order txn ending
    → MayEnd setting.programs (outcome_of setting state) txn ending
may_end setting state over txn (Committed rank) h = h.ends
may_end setting state over txn Read h = h
may_end setting state over txn RolledBack h = h
may_end setting state over txn (Conflict table pos other) h =
    let has : HasEnded state other = txn_ended setting state over other h.has in
    record {
      changes = h.changes;
      rival = subst (λ (o : Option TxnOutcome). IsSomeAnd o (λ rival. IsFalse (rival.label.session == txn.label.session)))
          (sym (outcome_has setting state other has)) h.apart;
    }
may_end setting state over txn (Invalid table pos other statement) h =
    let committed : HasCommitted state other h.rank = entry_committed setting state over h.rank other (over.fits.ranked h.rank other h.stands) in
    record {
      answers = h.answers;
      closes = h.closes;
      wrote = h.wrote;
      named = h.named;
      since = subst (λ (o : Option TxnOutcome). IsSomeAnd o (λ rival. IsSomeAnd (committed_at rival.ending) (λ (rank : ℕ). txn.start ≤ rank)))
          (sym (outcome_has setting state other committed.has))
          (subst (λ (ending : Ending). IsSomeAnd (committed_at ending) (λ (rank : ℕ). txn.start ≤ rank)) (sym committed.ending) h.since);
    }
may_end setting state over txn (Range table pos) h = h
may_end setting state over txn (Full table) h = h
