-- The core shows the state after a transaction entered the journal.
use Rattle.std.proofs.Common.{◌≡◌, ◌⊎◌, ℕ, suc, ◌-◌, ◌<◌, List, [], ◌∷◌, ◌++◌, length, None, Some, refl, sym, ap, ◌∙◌}
use Rattle.std.proofs.Common.{subst, arith, inl, inr}
use Rattle.std.specs.Prelude.{slice_get}
use Rattle.std.proofs.lemmas.Bool.{cases_lt}
use Rattle.std.proofs.lemmas.List.{length-append}
use Rattle.std.proofs.lemmas.Option.{same_Some, slice_get_within}
use Rattle.hy_journal.specs.declared.CoreData.{CoreData}
use Rattle.hy_journal.specs.declared.Entry.{Entry as Noted}
use Rattle.hy_journal.specs.Core.{core_entered, entry_of as note_of}
use Rattle.hy_event.specs.declared.SessionData.{SessionData}
use Rattle.hy_event.specs.declared.Open.{Open}
use Rattle.hy_protocol.specs.declared.Phase.TheVariants as phase
use Rattle.hy_protocol.specs.Turns.{is_stamping}
use Rattle.hy_event.specs.Sessions.{label_of as label_here, written}
use Rattle.hy_machine.specs.declared.Setting.{Setting}
use Rattle.hy_machine.specs.States.{State, Finished, Open as MachineOpen}
use Rattle.hy_machine.specs.Tables.{Entry}
use Rattle.hy_machine.specs.Writes.{written as written_there}
use Rattle.hy_machine.specs.Sessions.{snapshot, entry_of}
use Rattle.hy_machine.specs.Kept.{Kept}
use Rattle.hy_refinement.specs.Transactions.{IsOpen}
use Rattle.hy_refinement.specs.Numbers.{EntryShows, EntriesShow, TimesRise, TimesApart, ActiveIs, StampingShows, MarkShows, CoreShows, noted}
use Rattle.hy_refinement.specs.Sessions.{NotesShow, OpenShows}
use Rattle.hy_refinement.specs.Shows.{SessionsShow}
use Rattle.hy_refinement.specs.Frames.{gone_on, sessions_on, KeepsStart}
use Rattle.hy_refinement.proofs.ListsAppended.{get_before, get_behind}
use Rattle.hy_refinement.proofs.EnteredEntries.{entry_at}
use Rattle.hy_refinement.proofs.Holders.{same_label}
use Rattle.hy_refinement.proofs.RivalTops.{open_shown}
use Rattle.hy_refinement.proofs.FramesOpened.{WasOpen, same as itself, stays as another, was_open, done_stays}
use Rattle.hy_refinement.proofs.FramesCores.{times_stay, active_stays}
use Rattle.hy_refinement.proofs.EnteredStates.{entered_here, entered_there, with_entry_of, open_gone, open_entered}

module _ (setting : Setting) (state : State) (core : CoreData) (sessions : List SessionData) (kept : Kept setting state)
    (core_shows : CoreShows state core sessions) (sessions_show : SessionsShow setting state core sessions) (number : ℕ) (session : SessionData) (now : Open)
    (current : MachineOpen) (is : IsOpen state sessions number session now current) (unmarked : state.mark ≡ None)
    (wrote_is : written now ≡ written_there current.begun.own) where
  abbrev time : ℕ
  time = core.next

  abbrev then : Open
  then = entered_here time now

  abbrev later : MachineOpen
  later = entered_there current

  abbrev entry : Entry
  entry = entry_of setting state number current.begun

  abbrev note : Noted
  note = note_of core (label_here session) now.start now.notes

  abbrev gone : State
  gone = gone_on state number later

  abbrev after : State
  after = with_entry_of setting state number current

  abbrev news : List SessionData
  news = sessions_on sessions number session then

  abbrev core_then : CoreData
  core_then = core_entered core (label_here session) now.start now.notes

  -- ---- what is open

  none_marked : (other : ℕ) → state.mark ≡ Some other → ⊥
  none_marked other e = absurd (let f : None ≡ Some other = sym unmarked ∙ e in cc)

  mine : OpenShows setting state core number now current
  mine = open_shown setting state core sessions number session now current sessions_show is

  notes_show : NotesShow setting state now current
  notes_show = mine.notes_show (none_marked number)

  same_length : length core.entries ≡ length state.order
  same_length = core_shows.entries_show.count

  -- ---- the core

  -- one of the entries is an earlier one or the new one
  last_or_before : (rank : ℕ) (one : Noted) → slice_get (core.entries ++ note ∷ []) rank ≡ Some one
      → (slice_get core.entries rank ≡ Some one) ⊎ ((rank ≡ length core.entries) × (one ≡ note))
  last_or_before rank one e = elim (cases_lt rank (length core.entries)) [
    | inl below ↦ inl (sym (get_before core.entries (note ∷ []) rank below) ∙ e)
    | inr past ↦
        let here = slice_get_within (core.entries ++ note ∷ []) rank one e in
        let long = length-append core.entries (note ∷ []) in
        let is_last : rank ≡ length core.entries = omega (arith, past, here, long) in
        inr (is_last, same_Some one note (sym e ∙ (ap (slice_get (core.entries ++ note ∷ [])) is_last ∙ get_behind core.entries note)))
  ]

  entry_shows : EntryShows entry note
  entry_shows = record {
    label = same_label setting state core number session (sessions_show.each number session is.found);
    notes = λ table pos. notes_show.all.each table pos ∙ ap noted (sym (entry_at (snapshot setting state current.begun.prefix) current.begun.own table pos));
    ascends = notes_show.all.ascends;
  }

  entries_show : EntriesShow after.order core_then.entries
  entries_show = record {
    count =
        let a = length-append core.entries (note ∷ []) in
        let b = length-append state.order (entry ∷ []) in
        let c = same_length in
        omega (arith, a, b, c);
    each = λ rank entered one e f. elim (last_or_before rank one f) [
      | inl before ↦
          let within = slice_get_within core.entries rank one before in
          let same = same_length in
          core_shows.entries_show.each rank entered one (sym (get_before state.order (entry ∷ []) rank (omega (arith, within, same))) ∙ e) before
      | inr last ↦
          let is_last : rank ≡ length state.order = last.0 ∙ same_length in
          let entered_is : entry ≡ entered = same_Some entry entered
          (sym (get_behind state.order entry) ∙ (ap (slice_get (state.order ++ entry ∷ [])) (sym is_last) ∙ e)) in
          subst (λ (x : Entry). EntryShows x one) entered_is (subst (λ (y : Noted). EntryShows entry y) (sym last.1) entry_shows)
    ];
  }

  times_rise : TimesRise core_then.entries
  times_rise = record {
    above = λ rank one e. elim (last_or_before rank one e) [
      | inl before ↦ core_shows.times_rise.above rank one before
      | inr last ↦ subst (λ (n : Noted). 0 < n.time) (sym last.1) (let next = core_shows.times_apart.next in omega (arith, next))
    ];
    rise = λ rank other one second less e f. elim (last_or_before other second f) [
      | inl second_before ↦
          let within = slice_get_within core.entries other second second_before in
          core_shows.times_rise.rise rank other one second less
          (sym (get_before core.entries (note ∷ []) rank (omega (arith, less, within))) ∙ e) second_before
      | inr last ↦
          let at = last.0 in
          let before : slice_get core.entries rank ≡ Some one = sym (get_before core.entries (note ∷ []) rank (omega (arith, less, at))) ∙ e in
          subst (λ (n : Noted). one.time < n.time) (sym last.1) (core_shows.times_apart.times rank one before)
    ];
  }

  keeps : KeepsStart now then current later
  keeps = record { start = refl; prefix = refl; cover = refl; prefix_there = refl; low_there = refl }

  times_gone : TimesApart gone core news
  times_gone = times_stay state core sessions number session now then current later is keeps core_shows

  active_gone : ActiveIs gone core news
  active_gone = active_stays state core sessions number session now then current later is keeps core_shows

  times_apart : TimesApart after core_then news
  times_apart = record {
    times = λ rank one e. elim (last_or_before rank one e) [
      | inl before ↦ let less = core_shows.times_apart.times rank one before in omega (arith, less)
      | inr last ↦ subst (λ (n : Noted). n.time < suc core.next) (sym last.1) (omega arith)
    ];
    starts = λ other one present there open'.
        let less = times_gone.starts other one present there (open_gone setting state news number current other one present there open') in
        omega (arith, less);
    apart = λ other one present there open' rank entry' e same. elim (last_or_before rank entry' e) [
      | inl before ↦ times_gone.apart other one present there (open_gone setting state news number current other one present there open') rank entry'
          before same
      | inr last ↦
          let less = times_gone.starts other one present there (open_gone setting state news number current other one present there open') in
          let at : entry'.time ≡ core.next = ap (λ (n : Noted). n.time) last.1 in
          absurd (omega (arith, less, at, same))
    ];
    one_each = λ other one present there open' third one' present' there' open'' same.
        times_gone.one_each other one present there (open_gone setting state news number current other one present there open') third one' present' there'
        (open_gone setting state news number current third one' present' there' open'') same;
    next = let next = times_gone.next in let long = length-append state.order (entry ∷ []) in omega (arith, next, long);
  }

  active_is : ActiveIs after core_then news
  active_is = record {
    rises = active_gone.rises;
    has = λ other one present there open'. active_gone.has other one present there (open_gone setting state news number current other one present there open');
    only = λ start c.
        let had = active_gone.only start c in record {
          number = had.number;
          session = had.session;
          now = had.now;
          current = had.current;
          is_open = open_entered setting state news number current had.number had.session had.now had.current had.is_open;
          start_is = had.start_is;
        };
  }

  stamping_now : (visited : ℕ) → then.phase ≡ phase.Stamping visited → StampingShows core_then then later
  stamping_now visited e = record {
    entry = note;
    last =
        let long = length-append core.entries (note ∷ []) in
        ap (slice_get (core.entries ++ note ∷ [])) (let n : length (core.entries ++ note ∷ []) - 1 ≡ length core.entries = omega (arith, long) in n)
        ∙ get_behind core.entries note;
    time_is = refl;
    wrote = wrote_is;
  }

  stamping_by : (other : ℕ) (one : SessionData) (present : Open) (there : MachineOpen)
      → WasOpen state sessions number session then later other one present there
      → (visited : ℕ) → present.phase ≡ phase.Stamping visited → StampingShows core_then present there
  stamping_by other one present there (another apart open') visited e =
      let its = open_shown setting state core sessions other one present there sessions_show open' in
      absurd (none_marked other (kept.ranks.stamping other there open'.open_there
      (ap is_stamping (sym its.open_shows.phase ∙ e))))
  stamping_by other one present there (itself same one_is present_is there_is) visited e =
      subst (λ (w : Open). StampingShows core_then w there) (sym present_is)
      (subst (λ (c : MachineOpen). StampingShows core_then then c) (sym there_is)
      (stamping_now visited (ap (λ (w : Open). w.phase) (sym present_is) ∙ e)))

  mark_shows : MarkShows after core_then news
  mark_shows = record {
    mark =
        ap (λ l. Some l) (same_label setting state core number session (sessions_show.each number session is.found))
        ∙ ap (λ (done : List Finished). Some (record { session = number; txn = suc (length done) }))
        (sym (done_stays state number number current later is.open_there));
    stamping = λ other one present there open'. stamping_by other one present there
        (was_open state sessions number session now then current later is other one present there
        (open_gone setting state news number current other one present there open'));
  }

  pub core_entered_shows : CoreShows after core_then news
  core_entered_shows = record {
    entries_show = entries_show;
    times_rise = times_rise;
    times_apart = times_apart;
    active_is = active_is;
    mark_shows = mark_shows;
  }
