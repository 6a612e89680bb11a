-- A case: a script and an outcome of it, whether the engine may give it or not; and how one case is made from another.
use Rattle.std.specs.Prelude.{◌≡◌, ℕ, List, true, map, if◌then◌else◌}
use Rattle.hy_value.specs.declared.Value.{Value}
use Rattle.hy_bound.specs.declared.Reply.{Reply}
use Rattle.hy_bound.specs.declared.Txn.{Txn}
use Rattle.hy_stamp.specs.declared.Label.{Label}
use Rattle.hy_bound.specs.declared.schedule.Item.{Item}
use Rattle.hy_value.specs.declared.change.Change.{Change}
use Rattle.hy_render.specs.declared.Committed.{Committed as Entry}
use Rattle.hy_bound.specs.declared.Ending.{Ending}
use Rattle.hy_render.specs.declared.Outcome.{Outcome}
use Rattle.hy_render.specs.declared.Place.{Place}
use Rattle.hy_render.specs.declared.TxnOutcome.{TxnOutcome}
use Rattle.hy_machine.specs.declared.Setting.{Setting}
use Rattle.hy_machine.specs.States.{State}
use Rattle.hy_machine.specs.Runs.{run_of, IsReached, all_ended_from}
use Rattle.hy_machine.specs.Outcomes.{outcome_of}
use Rattle.hy_lawful.specs.Outcomes.{is_label}
use Rattle.hy_lawful.specs.Lawful.{Lawful}
use Rattle.hy_lawful.specs.Serial.{IsSerial}

-- a script, and an outcome
pub record Case : Type 0 where
  pub setting : Setting
  pub outcome : Outcome

-- the machine gives the outcome by this schedule, and it is lawful and serializable
pub record IsRight (case : Case) (schedule : List Item) : Type 0 where
  pub comes : case.outcome ≡ outcome_of case.setting (run_of case.setting schedule)
  pub lawful : Lawful case.setting case.outcome
  pub serial : IsSerial case.setting case.outcome

-- the outcome is not lawful, whether serializable or not
abbrev pub IsUnlawful : Case → Type 0
IsUnlawful case = Lawful case.setting case.outcome → ⊥

-- the outcome is lawful, and still not serializable
pub record IsNotSerial (case : Case) : Type 0 where
  pub lawful : Lawful case.setting case.outcome
  pub refused : IsSerial case.setting case.outcome → ⊥

-- the outcome is serializable, and still not lawful
pub record IsNotLawful (case : Case) : Type 0 where
  pub serial : IsSerial case.setting case.outcome
  pub refused : Lawful case.setting case.outcome → ⊥

-- the outcome is lawful and serializable, and still no steps of the machine come to it: whatever the sessions do, when all
-- have ended there is another one
pub record IsNeverGiven (case : Case) : Type 0 where
  pub lawful : Lawful case.setting case.outcome
  pub serial : IsSerial case.setting case.outcome
  pub never : (state : State) → IsReached case.setting state → all_ended_from case.setting 0 state.sessions ≡ true
      → case.outcome ≡ outcome_of case.setting state → ⊥

-- ---- a case with another script, other outcomes of transactions, another order, other final tables

abbrev pub with_programs : List (List Txn) → Case → Case
with_programs programs case = record case { setting = record case.setting { programs = programs } }

abbrev pub with_txns : List TxnOutcome → Case → Case
with_txns txns case = record case { outcome = record case.outcome { txns = txns } }

abbrev pub with_order : List Entry → Case → Case
with_order order case = record case { outcome = record case.outcome { order = order } }

abbrev pub with_tables : List (List (List Value)) → Case → Case
with_tables tables case = record case { outcome = record case.outcome { tables = tables } }

-- ---- a case in which one transaction came to something else

abbrev pub changed_at : Label → (TxnOutcome → TxnOutcome) → TxnOutcome → TxnOutcome
changed_at label change txn = if is_label txn.label label then change txn else txn

abbrev pub with_txn : Label → (TxnOutcome → TxnOutcome) → Case → Case
with_txn label change case = with_txns (map (changed_at label change) case.outcome.txns) case

abbrev pub with_start : Label → ℕ → Case → Case
with_start label start = with_txn label (λ txn. record txn { start = start })

abbrev pub with_replies : Label → List Reply → Case → Case
with_replies label replies = with_txn label (λ txn. record txn { replies = replies })

abbrev pub with_ending : Label → Ending → Case → Case
with_ending label ending = with_txn label (λ txn. record txn { ending = ending })

abbrev pub with_wrote : Label → List Place → Case → Case
with_wrote label wrote = with_txn label (λ txn. record txn { wrote = wrote })

abbrev pub with_placed : Label → List ℕ → Case → Case
with_placed label placed = with_txn label (λ txn. record txn { placed = placed })

-- ---- a case in which one entry of the order has other changes

abbrev pub with_changes : Label → List Change → Case → Case
with_changes label changes case =
    with_order (map (λ (entry : Entry). if is_label entry.label label then record entry { changes = changes } else entry) case.outcome.order) case
