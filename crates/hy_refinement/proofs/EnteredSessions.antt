-- The sessions show the state after a transaction entered the journal.
use Rattle.std.proofs.Common.{◌≡◌, ℕ, ◌≤◌, List, [], ◌∷◌, ◌++◌, length, map, Option, None, Some, refl, sym, ap, ◌∙◌}
use Rattle.std.proofs.Common.{subst, arith, inl, inr}
use Rattle.std.specs.Prelude.{slice_get}
use Rattle.std.proofs.lemmas.Bool.{cases_eq, cases_lt}
use Rattle.std.proofs.lemmas.List.{length-set, length-append}
use Rattle.std.proofs.lemmas.Option.{same_Some, slice_get_within}
use Rattle.hy_journal.specs.declared.CoreData.{CoreData}
use Rattle.hy_journal.specs.declared.Entry.{Entry as Noted}
use Rattle.hy_journal.specs.Core.{core_entered, entry_of as note_of}
use Rattle.hy_prune.specs.Fates.{watermark_of}
use Rattle.hy_event.specs.declared.SessionData.{SessionData}
use Rattle.hy_event.specs.declared.Open.{Open}
use Rattle.hy_bound.specs.SavedRelations.{AreAlike}
use Rattle.hy_event.specs.Sessions.{label_of as label_here, savepoint_of}
use Rattle.hy_machine.specs.declared.Setting.{Setting}
use Rattle.hy_machine.specs.States.{State, Session, Finished, Open as MachineOpen}
use Rattle.hy_machine.specs.Positions.{item_at}
use Rattle.hy_machine.specs.Tables.{Tables, over}
use Rattle.hy_machine.specs.Sessions.{session_at, txn_at, view, pair_of}
use Rattle.hy_machine.specs.Outcomes.{outcomes_from}
use Rattle.hy_machine.specs.Kept.{Kept}
use Rattle.hy_refinement.specs.Transactions.{IsOpen}
use Rattle.hy_refinement.specs.Numbers.{CoreShows, noted}
use Rattle.hy_refinement.specs.Sessions.{CountsBelow, CoverHolds, NotesHave, SinceHave, OpenShows, NowShows, SessionShows, GatheredBy, statement_at}
use Rattle.hy_refinement.specs.Shows.{SessionsShow}
use Rattle.hy_refinement.specs.Frames.{went_on, sessions_on}
use Rattle.hy_refinement.proofs.ListsAppended.{get_before, get_behind}
use Rattle.hy_refinement.proofs.RivalTops.{open_shown}
use Rattle.hy_refinement.proofs.FramesLists.{got_set, got_other}
use Rattle.hy_refinement.proofs.FramesOpened.{goes_there, stays_there, done_stays}
use Rattle.hy_refinement.proofs.EnteredStates.{entered_here, entered_there, with_entry_of, snapshot_before}

-- so many of the entries are below a bound still where one more is not
pub counts_more : (entries : List Noted) (entry : Noted) (count bound : ℕ) → CountsBelow entries count bound → count ≤ length entries → bound ≤ entry.time
    → CountsBelow (entries ++ entry ∷ []) count bound
counts_more entries entry count bound counts within late = record {
  early = λ rank one e less. counts.early rank one (sym (get_before entries (entry ∷ []) rank (omega (arith, less, within))) ∙ e) less;
  late = λ rank one e more. elim (cases_lt rank (length entries)) [
    | inl below ↦ counts.late rank one (sym (get_before entries (entry ∷ []) rank below) ∙ e) more
    | inr past ↦
        let here = slice_get_within (entries ++ entry ∷ []) rank one e in
        let long = length-append entries (entry ∷ []) in
        let is_last : length entries ≡ rank = omega (arith, past, here, long) in
        let same : entry ≡ one = same_Some entry one (sym (get_behind entries entry) ∙ (ap (slice_get (entries ++ entry ∷ [])) is_last ∙ e)) in
        subst (λ (n : Noted). bound ≤ n.time) same late
  ];
}

module _ (setting : Setting) (state : State) (core : CoreData) (sessions : List SessionData) (kept : Kept setting state)
    (core_shows : CoreShows state core sessions) (sessions_show : SessionsShow setting state core sessions) (number : ℕ) (session : SessionData) (now : Open)
    (current : MachineOpen) (is : IsOpen state sessions number session now current) (unmarked : state.mark ≡ None) where
  abbrev time : ℕ
  time = core.next

  abbrev then : Open
  then = entered_here time now

  abbrev later : MachineOpen
  later = entered_there current

  abbrev note : Noted
  note = note_of core (label_here session) now.start now.notes

  abbrev after : State
  after = with_entry_of setting state number current

  abbrev news : List SessionData
  news = sessions_on sessions number session then

  abbrev core_then : CoreData
  core_then = core_entered core (label_here session) now.start now.notes

  none_marked : (other : ℕ) → state.mark ≡ Some other → ⊥
  none_marked other e = absurd (let f : None ≡ Some other = sym unmarked ∙ e in cc)

  mine : OpenShows setting state core number now current
  mine = open_shown setting state core sessions number session now current sessions_show is

  counts_same : (other : ℕ) (one : SessionData) (present : Open) (there : MachineOpen) → IsOpen state sessions other one present there
      → OpenShows setting state core other present there
      → CountsBelow core_then.entries present.prefix present.start × CountsBelow core_then.entries there.begun.low (watermark_of present.cover)
  counts_same other one present there open' its =
      let starts = kept.starts.opens other there open'.open_there in
      let low = starts.0 in
      let within = starts.1 in
      let prefix = its.open_shows.prefix in
      let same = core_shows.entries_show.count in
      let early = core_shows.times_apart.starts other one present there open' in
      let below = its.cover_holds.below in (
        counts_more core.entries note present.prefix present.start its.prefix_counts (omega (arith, within, prefix, same)) (omega (arith, early)),
        counts_more core.entries note there.begun.low (watermark_of present.cover) its.low_counts (omega (arith, low, within, same))
            (omega (arith, early, below)),
      )

  cover_same : (present : Open) → CoverHolds core present → CoverHolds core_then present
  cover_same present holds = record {
    below = holds.below;
    held = record { past = let past = holds.held.past in omega (arith, past); safe = holds.held.safe };
  }

  other_open : (other : ℕ) (one : SessionData) (present : Open) (there : MachineOpen) → (other ≡ number → ⊥) → IsOpen state sessions other one present there
      → OpenShows setting after core_then other present there
  other_open other one present there apart open' =
      let its = open_shown setting state core sessions other one present there sessions_show open' in
      let counts = counts_same other one present there open' its in
      let same = snapshot_before setting state number current there.begun.prefix (kept.starts.opens other there open'.open_there).1 in record {
        prefix_counts = counts.0;
        low_counts = counts.1;
        cover_holds = cover_same present its.cover_holds;
        open_shows = its.open_shows;
        notes_show = λ _.
            let notes = its.notes_show (none_marked other) in record {
              all = subst (λ (tables : Tables). NotesHave tables there.begun.own present.notes) (sym same) notes.all;
              saved = subst (λ (tables : Tables). AreAlike (SinceHave setting tables there.begun.trail) (map savepoint_of present.saved) there.begun.saved) (sym same) notes.saved;
            };
        gathered_shows = λ visited count e.
            subst (λ (at : Session). GatheredBy setting (view setting after there.begun) visited present.gathered
            (statement_at (txn_at setting other at) (length present.replies)))
            (sym (stays_there state number other later apart))
            (subst (λ (tables : Tables). GatheredBy setting (over tables there.begun.own) visited present.gathered
            (statement_at (txn_at setting other (session_at state other)) (length present.replies))) (sym same) (its.gathered_shows visited count e));
      }

  own_open : OpenShows setting after core_then number then later
  own_open =
      let counts = counts_same number session now current is mine in record {
        prefix_counts = counts.0;
        low_counts = counts.1;
        cover_holds = record { below = mine.cover_holds.below; held = (cover_same now mine.cover_holds).held };
        open_shows = record {
          prefix = mine.open_shows.prefix;
          replies = mine.open_shows.replies;
          records = mine.open_shows.records;
          took = mine.open_shows.took;
          phase = refl;
        };
        notes_show = λ unlike. absurd (unlike refl);
        gathered_shows = λ visited count e. absurd cc;
      }

  -- whether a session has an open transaction
  now_by : (other : ℕ) (one : SessionData) → slice_get sessions other ≡ Some one → (other ≡ number → ⊥) → (here : Option Open) (there : Option MachineOpen)
      → one.now ≡ here → (session_at state other).now ≡ there → NowShows setting state core other here there
      → NowShows setting after core_then other here there
  now_by other one found apart None None here_is there_is shows = tt
  now_by other one found apart None (Some there) here_is there_is shows = absurd shows
  now_by other one found apart (Some present) None here_is there_is shows = absurd shows
  now_by other one found apart (Some present) (Some there) here_is there_is shows =
      other_open other one present there apart (record { found = found; open_here = here_is; open_there = there_is })

  other_session : (other : ℕ) (one : SessionData) → slice_get sessions other ≡ Some one → (other ≡ number → ⊥)
      → SessionShows setting after core_then other one
  other_session other one found apart =
      let shows = sessions_show.each other one found in record {
        session_is = shows.session_is;
        done_shows =
            shows.done_shows
            ∙ ap (λ (done : List Finished). outcomes_from setting other 0 done)
            (sym (done_stays state number other current later is.open_there));
        now_shows = subst (λ (at : Session). NowShows setting after core_then other one.now at.now)
            (sym (stays_there state number other later apart))
            (now_by other one found apart one.now (session_at state other).now refl refl shows.now_shows);
      }

  own_session : SessionShows setting after core_then number (went_on session then)
  own_session =
      let shows = sessions_show.each number session is.found in record {
        session_is = record {
          number_is = shows.session_is.number_is;
          program = shows.session_is.program;
          shapes = shows.session_is.shapes;
          chunks = shows.session_is.chunks;
          rows = shows.session_is.rows;
        };
        done_shows =
            shows.done_shows
            ∙ ap (λ (done : List Finished). outcomes_from setting number 0 done)
            (sym (done_stays state number number current later is.open_there));
        now_shows = subst (λ (at : Session). NowShows setting after core_then number (Some then) at.now)
            (sym (goes_there state number current later is.open_there)) own_open;
      }

  pub sessions_entered_show : SessionsShow setting after core_then news
  sessions_entered_show = record {
    count = length-set sessions number (went_on session then) ∙ sessions_show.count;
    each = λ other one e. elim (cases_eq other number) [
      | inl same ↦
          let one_is : went_on session then ≡ one = same_Some (went_on session then) one
          (sym (got_set sessions number session (went_on session then) is.found) ∙ (ap (slice_get news) (sym same) ∙ e)) in
          subst (λ (n : ℕ). SessionShows setting after core_then n one) (sym same)
          (subst (λ (s : SessionData). SessionShows setting after core_then number s) one_is own_session)
      | inr apart ↦ other_session other one (sym (got_other sessions number other (went_on session then) apart) ∙ e) apart
    ];
  }
