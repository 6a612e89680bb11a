-- What the parts and the sessions tell is the machine's outcome, where all sessions are at their end.
use Rattle.std.proofs.Common.{◌≡◌, ℕ, suc, List, [], ◌∷◌, ◌++◌, length, map, Option, None, Some, refl, sym, ap, ◌∙◌, arith}
use Rattle.std.specs.Prelude.{filter, flat_map}
use Rattle.hy_value.specs.declared.Value.{Value}
use Rattle.hy_value.specs.declared.change.Change.{Change}
use Rattle.hy_stamp.specs.declared.Label.{Label}
use Rattle.hy_render.specs.declared.Committed.{Committed}
use Rattle.hy_render.specs.declared.Outcome.{Outcome}
use Rattle.hy_render.specs.declared.TxnOutcome.{TxnOutcome}
use Rattle.hy_notes.specs.Notes.{is_change}
use Rattle.hy_journal.specs.declared.CoreData.{CoreData}
use Rattle.hy_journal.specs.declared.Entry.{Entry}
use Rattle.hy_event.specs.declared.SessionData.{SessionData}
use Rattle.hy_machine.specs.declared.Setting.{Setting}
use Rattle.hy_machine.specs.States.{State, Session, Open as MachineOpen}
use Rattle.hy_machine.specs.Tables.{Entry as Entered}
use Rattle.hy_machine.specs.Outcomes.{outcomes_from, all_outcomes_from, outcome_of}
use Rattle.hy_machine.specs.Validation.{committed_of}
use Rattle.hy_machine.specs.Kept.{Kept, IsNow}
use Rattle.hy_lawful.specs.Kept.{ReachedAreKept}
use Rattle.hy_refinement.specs.Numbers.{EntryShows}
use Rattle.hy_refinement.specs.Places.{IsNewcomer}
use Rattle.hy_stepping.specs.Outcomes.{last_viewer, told_entry, told_outcome, OutcomesAreTold}
use Rattle.hy_stepping.proofs.OpenOnes.{kept_of}
use Rattle.hy_stepping.proofs.OutcomesPairs.{EachFrom, each_from}
use Rattle.hy_stepping.proofs.OutcomesEnds.{ShowsOne, shown_each, ends_are, none_open}
use Rattle.hy_refinement.specs.CoreVisits.{EntriesTellChanges}
use Rattle.hy_stepping.proofs.OutcomesTables.{tables_shown}

-- ---- the transactions

txns_from : (setting : Setting) (state : State) (core : CoreData) (first : ℕ) (here : List SessionData) (there : List Session)
    → EachFrom (ShowsOne setting state core) first here there → flat_map (λ (session : SessionData). session.done) here ≡ all_outcomes_from setting first there
txns_from setting state core first [] [] each = refl
txns_from setting state core first [] (other ∷ there) each = absurd each
txns_from setting state core first (session ∷ here) [] each = absurd each
txns_from setting state core first (session ∷ here) (other ∷ there) each =
    let one : ShowsOne setting state core first session other = each.0 in
    ap (λ (txns : List TxnOutcome). txns ++ flat_map (λ (session : SessionData). session.done) here)
    (one.shows.done_shows ∙ ap (λ (session : Session). outcomes_from setting first 0 session.done) one.is)
    ∙ ap (λ (txns : List TxnOutcome). outcomes_from setting first 0 other.done ++ txns) (txns_from setting state core (suc first) here there each.1)

-- ---- the commit order

-- an entry of the journal and the machine's that it shows
record ShowsEntry (rank : ℕ) (entry : Entry) (entered : Entered) : Type 0 where
  shows : EntryShows entered entry

abbrev committed : Label → List Change → Committed
committed label changes = record { label = label; changes = changes }

same_entry : EntriesTellChanges → (entered : Entered) (entry : Entry) → EntryShows entered entry → told_entry entry ≡ committed_of entered
same_entry one entered entry shows =
    ap (λ (label : Label). committed label (filter is_change entry.notes)) shows.label
    ∙ ap (committed entered.label) (one entered entry shows)

entries_from : EntriesTellChanges → (first : ℕ) (entries : List Entry) (order : List Entered) → EachFrom ShowsEntry first entries order
    → map told_entry entries ≡ map committed_of order
entries_from one first [] [] each = refl
entries_from one first [] (entered ∷ order) each = absurd each
entries_from one first (entry ∷ entries) [] each = absurd each
entries_from one first (entry ∷ entries) (entered ∷ order) each =
    let pair : ShowsEntry first entry entered = each.0 in
    ap (λ (new : Committed). new ∷ map told_entry entries) (same_entry one entered entry pair.shows)
    ∙ ap (λ (others : List Committed). committed_of entered ∷ others) (entries_from one (suc first) entries order each.1)

-- ---- all of it

abbrev outcome : List TxnOutcome → List Committed → List (List (List Value)) → Outcome
outcome txns order tables = record { txns = txns; order = order; tables = tables }

same_outcome : (txns others : List TxnOutcome) (order entries : List Committed) (tables rows : List (List (List Value)))
    → txns ≡ others → order ≡ entries → tables ≡ rows → outcome txns order tables ≡ outcome others entries rows
same_outcome txns others order entries tables rows e f g =
    ap (λ (t : List TxnOutcome). outcome t order tables) e
    ∙ (ap (λ (o : List Committed). outcome others o tables) f ∙ ap (outcome others entries) g)

-- where no session has an open transaction, none is marked
unmarked : (setting : Setting) (state : State) → Kept setting state → ((number : ℕ) (current : MachineOpen) → IsNow state number current → ⊥)
    → (mark : Option ℕ) → state.mark ≡ mark → state.mark ≡ None
unmarked setting state kept none None e = e
unmarked setting state kept none (Some number) e =
    let open_one = kept.ranks.marked number e in absurd (none number open_one.0 open_one.1.0)

pub outcomes_are : ReachedAreKept → EntriesTellChanges → OutcomesAreTold
outcomes_are reached one setting state parts sessions shown done =
    same_outcome (flat_map (λ (session : SessionData). session.done) sessions) (all_outcomes_from setting 0 state.sessions)
    (map told_entry core.entries) (map committed_of state.order) tables_told (outcome_of setting state).tables
    (txns_from setting state core 0 sessions state.sessions (shown_each setting state parts sessions shown kept.fits))
    (entries_from one 0 core.entries state.order (each_from ShowsEntry 0 core.entries state.order shown.shows.core_shows.entries_show.count
    (λ index number entry entered e f g. record { shows = shown.shows.core_shows.entries_show.each index entered entry g f })))
    (tables_shown setting state parts sessions shown.shows (unmarked setting state kept none state.mark refl) newcomer kept.fits.shapes)
  where
    core : CoreData
    core = shown.shows.core

    kept : Kept setting state
    kept = kept_of reached setting state parts sessions shown

    tables_told : List (List (List Value))
    tables_told = (told_outcome (length setting.shapes) setting.chunks core parts sessions).tables

    none : (number : ℕ) (current : MachineOpen) → IsNow state number current → ⊥
    none = none_open setting state kept.fits (sym (ends_are reached setting state parts sessions shown) ∙ done)

    newcomer : IsNewcomer state core sessions (last_viewer core)
    newcomer = record {
      start = refl;
      id = omega arith;
      new = λ number session now current open_one. absurd (none number current open_one.open_there);
    }
