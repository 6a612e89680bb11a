-- Validation finds the first hit that the machine finds.
use Rattle.std.proofs.Common.{◌≡◌, ℕ, zero, suc, List, [], ◌∷◌, map, drop, Option, None, Some, refl, sym, ap, ◌∙◌, subst, arith, cond}
use Rattle.std.specs.Prelude.{slice_get, filter, ◌==◌, ◌&&◌}
use Rattle.std.specs.Option.{option_or, option_map}
use Rattle.std.proofs.lemmas.Option.{same_Some}
use Rattle.hy_bound.specs.declared.Record.{Record}
use Rattle.hy_bound.specs.Records.{is_hit}
use Rattle.hy_value.specs.declared.change.Change.{Change}
use Rattle.hy_bound.specs.declared.Ending.{Ending}
use Rattle.hy_stamp.specs.declared.Label.{Label}
use Rattle.hy_notes.specs.Notes.{is_change}
use Rattle.hy_notes.specs.Telling.{TellingIsOne}
use Rattle.hy_validate.specs.TreeHits.{first_hit_of}
use Rattle.hy_journal.specs.declared.CoreData.{CoreData}
use Rattle.hy_journal.specs.declared.Entry.{Entry}
use Rattle.hy_validate.specs.declared.Invalid.{Invalid}
use Rattle.hy_validate.specs.Hits.{hit_among, first_invalid, change_hit, invalid_by as invalid_of}
use Rattle.hy_validate.specs.Statements.{statement_at, statement_hit}
use Rattle.hy_event.specs.CoreTurns.{invalid_by, statement_of}
use Rattle.hy_event.specs.declared.Open.{Open}
use Rattle.hy_machine.specs.declared.Setting.{Setting}
use Rattle.hy_machine.specs.States.{State, Open as MachineOpen}
use Rattle.hy_machine.specs.Sessions.{session_at}
use Rattle.hy_machine.specs.Tables.{Entry as Entered}
use Rattle.hy_machine.specs.Positions.{by_place}
use Rattle.hy_machine.specs.Validation.{committed_of, change_at, change_hits, first_hit, hit_among as hits_among, record_hit, invalid_at}
use Rattle.hy_refinement.specs.Numbers.{EntryShows, EntriesShow}
use Rattle.hy_refinement.specs.Sessions.{NowShows, DoneSoFar}
use Rattle.hy_refinement.specs.CoreVisits.{EntriesTellChanges, HitsAreTheMachines}
use Rattle.hy_refinement.proofs.HitNotes.{whole_at, wholes_ascend, wholes_tell, wholes_changes}

-- what a validation tells of statements and of changes
pub record HitLaws : Type 0 where
  pub statements : (records : List Record) (change : Change) → option_map (statement_at records) (first_hit_of records change) ≡ statement_hit records change
  pub rows : (records : List Record) (other : Label) (changes : List Change)
      → hit_among records other (filter is_change changes) ≡ hit_among records other changes
  pub one : TellingIsOne

-- the notes of an entry that is shown are those that tell what the machine's does
pub entry_changes : TellingIsOne → EntriesTellChanges
entry_changes one entered entry shows =
    ap (λ (notes : List Change). filter is_change notes)
    (one entry.notes (by_place whole_at entered.cells) shows.ascends (wholes_ascend entered.cells)
    (λ table pos. shows.notes table pos ∙ sym (wholes_tell entered.cells table pos)))
    ∙ wholes_changes entered.cells

-- ---- one change

same_statement : (records : List Record) (number : ℕ) → statement_of (slice_get records number) ≡ statement_at records number
same_statement [] number = refl
same_statement (of ∷ records) zero = refl
same_statement (of ∷ records) (suc number) = same_statement records number

by_statement : (records : List Record) (other : Label) (change : Change) (hit : Option ℕ)
    → option_map (invalid_by records) (option_map (invalid_of other change) hit) ≡ option_map (invalid_at other change.table change.pos) (option_map (statement_at records) hit)
by_statement records other change None = refl
by_statement records other change (Some number) = ap (λ (n : ℕ). Some (invalid_at other change.table change.pos n)) (same_statement records number)

same_record : (records : List Record) (change : Change) → statement_hit records change ≡ record_hit records change.table change.before change.after
same_record [] change = refl
same_record (of ∷ records) change =
    ap (λ (rest : Option ℕ). cond (of.table == change.table && is_hit of change.before change.after) (Some of.statement) rest) (same_record records change)

change_same : HitLaws → (records : List Record) (other : Label) (change : Change)
    → option_map (invalid_by records) (change_hit records other change) ≡ change_hits records other change
change_same laws records other change =
    by_statement records other change (first_hit_of records change)
    ∙ ap (λ (hit : Option ℕ). option_map (invalid_at other change.table change.pos) hit) (laws.statements records change ∙ same_record records change)

-- ---- many

map_or : {A B : Type 0} (f : A → B) (x y : Option A) → option_map f (option_or x y) ≡ option_or (option_map f x) (option_map f y)
map_or f None y = refl
map_or f (Some x) y = refl

changes_same : HitLaws → (records : List Record) (other : Label) (changes : List Change)
    → option_map (invalid_by records) (hit_among records other changes) ≡ hits_among records other changes
changes_same laws records other [] = refl
changes_same laws records other (change ∷ changes) =
    map_or (invalid_by records) (change_hit records other change) (hit_among records other changes)
    ∙ (ap (λ (first : Option Ending). option_or first (option_map (invalid_by records) (hit_among records other changes))) (change_same laws records other change)
    ∙ ap (λ (rest : Option Ending). option_or (change_hits records other change) rest) (changes_same laws records other changes))

entry_same : HitLaws → (records : List Record) (entered : Entered) (entry : Entry) → EntryShows entered entry
    → option_map (invalid_by records) (hit_among records entry.label entry.notes)
    ≡ hits_among records entered.label (by_place change_at entered.cells)
entry_same laws records entered entry shows =
    ap (λ (hit : Option Invalid). option_map (invalid_by records) hit) (sym (laws.rows records entry.label entry.notes))
    ∙ (ap (λ (changes : List Change). option_map (invalid_by records) (hit_among records entry.label changes)) (entry_changes laws.one entered entry shows)
    ∙ (ap (λ (label : Label). option_map (invalid_by records) (hit_among records label (by_place change_at entered.cells))) shows.label
    ∙ changes_same laws records entered.label (by_place change_at entered.cells)))

-- the entries of a journal are those of the commit order, one by one
entries_same : HitLaws → (records : List Record) (order : List Entered) (entries : List Entry) → EntriesShow order entries
    → option_map (invalid_by records) (first_invalid records entries) ≡ first_hit records (map committed_of order)
entries_same laws records [] [] shows = refl
entries_same laws records [] (entry ∷ entries) shows = absurd (let e = shows.count in omega (arith, e))
entries_same laws records (entered ∷ order) [] shows = absurd (let e = shows.count in omega (arith, e))
entries_same laws records (entered ∷ order) (entry ∷ entries) shows =
    map_or (invalid_by records) (hit_among records entry.label entry.notes) (first_invalid records entries)
    ∙ (ap (λ (first : Option Ending). option_or first (option_map (invalid_by records) (first_invalid records entries)))
    (entry_same laws records entered entry (shows.each zero entered entry refl refl))
    ∙ ap (λ (rest : Option Ending). option_or (hits_among records entered.label (by_place change_at entered.cells)) rest)
    (entries_same laws records order entries (record {
      count = let e = shows.count in omega (arith, e);
      each = λ rank one other e f. shows.each (suc rank) one other e f;
    })))

-- those behind a first part too
behind : (count : ℕ) (order : List Entered) (entries : List Entry) → EntriesShow order entries → EntriesShow (drop count order) (drop count entries)
behind zero order entries shows = shows
behind (suc count) [] [] shows = shows
behind (suc count) [] (entry ∷ entries) shows = absurd (let e = shows.count in omega (arith, e))
behind (suc count) (entered ∷ order) [] shows = absurd (let e = shows.count in omega (arith, e))
behind (suc count) (entered ∷ order) (entry ∷ entries) shows = behind count order entries (record {
  count = let e = shows.count in omega (arith, e);
  each = λ rank one other e f. shows.each (suc rank) one other e f;
})

-- what an open transaction has done so far
done_so_far : (setting : Setting) (state : State) (core : CoreData) (number : ℕ) (here : Option Open) (there : Option MachineOpen)
    → NowShows setting state core number here there → (now : Open) (current : MachineOpen) → here ≡ Some now → there ≡ Some current → DoneSoFar now current
done_so_far setting state core number None there shows now current e f = absurd cc
done_so_far setting state core number (Some one) None shows now current e f = absurd shows
done_so_far setting state core number (Some one) (Some other) shows now current e f =
    subst (λ (n : Open). DoneSoFar n current) (same_Some one now e) (subst (λ (c : MachineOpen). DoneSoFar one c) (same_Some other current f) shows.open_shows)

pub hits_are : HitLaws → HitsAreTheMachines
hits_are laws setting state parts sessions number session now current at =
    let shows = at.shown.shows in
    let done : DoneSoFar now current =
    done_so_far setting state shows.core number session.now (session_at state number).now
    (shows.sessions_show.each number session at.is_open.found).now_shows now current at.is_open.open_here at.is_open.open_there in
    entries_same laws now.records (drop now.prefix state.order) (drop now.prefix shows.core.entries)
    (behind now.prefix state.order shows.core.entries shows.core_shows.entries_show)
    ∙ (ap (λ (n : ℕ). first_hit now.records (map committed_of (drop n state.order))) done.prefix
    ∙ ap (λ (records : List Record). first_hit records (map committed_of (drop current.begun.prefix state.order))) done.records)
