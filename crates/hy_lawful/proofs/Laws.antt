-- The outcome of a run is lawful, clause by clause.
use Rattle.std.proofs.Common.{◌≡◌, ℕ, suc, ◌≤◌, Option, None, Some, true, length, map, ap, sym, ◌∙◌}
use Rattle.std.proofs.Common.{arith}
use Rattle.std.specs.Prelude.{slice_get, IfSome}
use Rattle.std.specs.List.{AllByRecursion}
use Rattle.std.specs.Option.{option_map}
use Rattle.std.proofs.lemmas.List.{length-map}
use Rattle.hy_stamp.specs.declared.Label.{Label}
use Rattle.hy_bound.specs.declared.Ending.{Ending}
use Rattle.hy_bound.specs.declared.Ending.TheVariants.{Committed, Read, RolledBack, Conflict, Invalid, Range, Full}
use Rattle.hy_render.specs.declared.TxnOutcome.{TxnOutcome}
use Rattle.hy_render.specs.declared.Committed.{Committed as Committing}
use Rattle.hy_render.specs.declared.Outcome.{Outcome}
use Rattle.hy_machine.specs.declared.Setting.{Setting}
use Rattle.hy_machine.specs.States.{State}
use Rattle.hy_machine.specs.Tables.{Entry}
use Rattle.hy_machine.specs.Validation.{committed_of}
use Rattle.hy_machine.specs.Outcomes.{txn_outcome_of, outcome_of}
use Rattle.hy_machine.specs.Runs.{IsReached, all_ended_from}
use Rattle.hy_lawful.specs.Outcomes.{outcome_at, committed_at, is_later, later_than}
use Rattle.hy_lawful.specs.Positions.{ArePositions, places_of}
use Rattle.hy_lawful.specs.Endings.{MayEnd}
use Rattle.hy_lawful.specs.Lawful.{StandsAt, Follows, Lawful}
use Rattle.hy_lawful.proofs.Lists.{all_so, all_mapped, all_kept, item_at_number}
use Rattle.hy_lawful.proofs.Fits.{label_at, FitsTables}
use Rattle.hy_lawful.proofs.Places.{written_positions, changed_positions}
use Rattle.hy_lawful.proofs.Reached.{reached_fits}
use Rattle.hy_lawful.proofs.Outcomes.{each_outcome, each_entry, labels_all}
use Rattle.hy_lawful.proofs.Over.{IsOver, HasCommitted, is_over, entry_committed, outcome_has}
use Rattle.hy_lawful.proofs.Endings.{stands_at, may_end}
use Rattle.hy_lawful.proofs.Followers.{follows, done_fits}
use Rattle.hy_lawful.proofs.FullTables.{full_tables}

order_clause : (setting : Setting) (state : State) → IsOver setting state → (rank : ℕ) (label : Label) → label_at state.order rank ≡ Some label
    → option_map (λ (txn : TxnOutcome). txn.ending) (outcome_at (outcome_of setting state) label) ≡ Some (Committed rank)
order_clause setting state over rank label e =
    let committed : HasCommitted state label rank = entry_committed setting state over rank label (over.fits.ranked rank label e) in
    ap (option_map (λ (txn : TxnOutcome). txn.ending)) (outcome_has setting state label committed.has) ∙ ap Some committed.ending

over_lawful : (setting : Setting) (state : State) → IsReached setting state → IsOver setting state → Lawful setting (outcome_of setting state)
over_lawful setting state reached over = record {
  transactions = labels_all setting 0 state.sessions setting.programs over.fits.count over.all;
  places = each_outcome setting (λ (txn : TxnOutcome). ArePositions setting txn.wrote) state
      (λ number before finished e. written_positions setting finished.begun.own (done_fits setting state over.fits number before finished e).own);
  changed_places = all_mapped (λ (entry : Committing). ArePositions setting (places_of entry.changes)) committed_of state.order
      (all_so (λ (entry : Entry). FitsTables setting entry.cells)
      (λ (entry : Entry). ArePositions setting (places_of (committed_of entry).changes)) state.order
      (changed_positions setting) over.fits.cells);
  starts = each_outcome setting (λ (txn : TxnOutcome). txn.start ≤ length (map committed_of state.order)) state
      (λ number before finished e. omega (arith, (done_fits setting state over.fits number before finished e).start, length-map state.order committed_of));
  committed = each_outcome setting (λ (txn : TxnOutcome). IfSome (committed_at txn.ending) (StandsAt (map committed_of state.order) txn)) state
      (λ number before finished e. stands_at setting state.order (txn_outcome_of setting number before finished) finished.ending
      (done_fits setting state over.fits number before finished e).ends);
  order = each_entry (λ rank label. option_map (λ (txn : TxnOutcome). txn.ending) (outcome_at (outcome_of setting state) label) ≡ Some (Committed rank))
      state.order (order_clause setting state over);
  sessions = each_outcome setting (λ (txn : TxnOutcome). AllByRecursion (Follows txn) (later_than (outcome_of setting state) txn)) state
      (λ number before finished e. all_kept (Follows (txn_outcome_of setting number before finished))
      (is_later (record { session = number; txn = suc before }))
      (outcome_of setting state).txns
      (each_outcome setting (λ (txn : TxnOutcome). is_later (record { session = number; txn = suc before }) txn ≡ true
      → Follows (txn_outcome_of setting number before finished) txn) state
      (λ other after later f. follows setting state over.fits number before finished e other after later f)));
  endings = each_outcome setting (λ (txn : TxnOutcome). MayEnd setting.programs (outcome_of setting state) txn txn.ending) state
      (λ number before finished e. may_end setting state over (txn_outcome_of setting number before finished) finished.ending
      (done_fits setting state over.fits number before finished e).ends);
  full = full_tables setting state reached over;
}

-- a state that the machine comes to, and in which every session has ended, has a lawful outcome
pub lawful : (setting : Setting) (state : State) → IsReached setting state → all_ended_from setting 0 state.sessions ≡ true
    → Lawful setting (outcome_of setting state)
lawful setting state reached over = over_lawful setting state reached (is_over setting state (reached_fits setting state reached) over)

-- the rank that an ending names
rank_of : Option Ending → ℕ
rank_of None = 0
rank_of (Some (Committed rank)) = rank
rank_of (Some Read) = 0
rank_of (Some RolledBack) = 0
rank_of (Some (Conflict table pos other)) = 0
rank_of (Some (Invalid table pos other statement)) = 0
rank_of (Some (Range table pos)) = 0
rank_of (Some (Full table)) = 0

-- in a lawful outcome no transaction stands in the commit order twice
pub stands_once : (setting : Setting) (outcome : Outcome) → Lawful setting outcome → (rank other : ℕ) (entry again : Committing)
    → slice_get outcome.order rank ≡ Some entry → slice_get outcome.order other ≡ Some again → entry.label ≡ again.label → rank ≡ other
unfolding rank_of
stands_once setting outcome lawful rank other entry again e f same =
    let ending_at : Label → Option Ending = λ label. option_map (λ (txn : TxnOutcome). txn.ending) (outcome_at outcome label) in
    let here : ending_at entry.label ≡ Some (Committed rank) =
    item_at_number (λ (n : ℕ) (one : Committing). ending_at one.label ≡ Some (Committed n)) outcome.order lawful.order rank entry e in
    let there : ending_at again.label ≡ Some (Committed other) =
    item_at_number (λ (n : ℕ) (one : Committing). ending_at one.label ≡ Some (Committed n)) outcome.order lawful.order other again f in
    ap rank_of (sym here ∙ (ap ending_at same ∙ there))
