-- The core shows the state where a transaction has ended, and so do the sessions.
use Rattle.std.proofs.Common.{◌≡◌, ◌≢◌, ℕ, ◌+◌, ◌<◌, List, [], ◌∷◌, ◌++◌, length, Contains, Option, None, Some, refl, sym, ap, ◌∙◌, subst, arith, inl, inr}
use Rattle.std.specs.Prelude.{slice_get}
use Rattle.std.proofs.lemmas.Bool.{cases_eq}
use Rattle.std.proofs.lemmas.List.{length-set, length-append}
use Rattle.std.proofs.lemmas.List.Sums.{sum_by-set}
use Rattle.std.proofs.lemmas.Option.{same_Some, slice_get_within}
use Rattle.hy_bound.specs.declared.Txn.{Txn}
use Rattle.hy_bound.specs.declared.Ending.{Ending}
use Rattle.hy_render.specs.declared.TxnOutcome.{TxnOutcome}
use Rattle.hy_prune.specs.OpenStarts.{without}
use Rattle.hy_journal.specs.declared.CoreData.{CoreData}
use Rattle.hy_journal.specs.declared.Entry.{Entry}
use Rattle.hy_journal.specs.Core.{core_left}
use Rattle.hy_event.specs.declared.SessionData.{SessionData}
use Rattle.hy_event.specs.declared.Open.{Open}
use Rattle.hy_protocol.specs.declared.Phase.TheVariants as phase
use Rattle.hy_event.specs.Sessions.{written}
use Rattle.hy_event.specs.Ended.{outcome_of}
use Rattle.hy_event.specs.Turns.{with_ended as ended_here, done_with as done_here}
use Rattle.hy_machine.specs.declared.Setting.{Setting}
use Rattle.hy_machine.specs.States.{State, Session, Open as MachineOpen}
use Rattle.hy_machine.specs.Writes.{written as written_there}
use Rattle.hy_machine.specs.Sessions.{fresh, session_at, program_of, txn_at, view}
use Rattle.hy_machine.specs.Steps.{with_ended, done_with}
use Rattle.hy_machine.specs.Outcomes.{outcomes_from, txn_outcome_of}
use Rattle.hy_machine.specs.Begun.{count_open, count_begun}
use Rattle.hy_refinement.specs.Transactions.{IsOpen, OfOpen}
use Rattle.hy_refinement.specs.Numbers.{TimesApart, IsStart, ActiveIs, StampingShows, CoreShows}
use Rattle.hy_refinement.specs.Sessions.{OpenShows, NowShows, SessionShows, GatheredBy, statement_at}
use Rattle.hy_refinement.specs.Shows.{SessionsShow}
use Rattle.hy_machine.specs.Kept.{Fits}
use Rattle.hy_refinement.proofs.Holders.{is_there, same_label, outcomes_length}
use Rattle.hy_refinement.proofs.RivalTops.{open_shown}
use Rattle.hy_refinement.proofs.EndedOutcomes.{outcome_is, one_more_outcome}
use Rattle.hy_refinement.proofs.EndedStarts.{rise_without, still_in, was_in, not_in}
use Rattle.hy_refinement.proofs.FramesOpened.{open_once}
use Rattle.hy_refinement.proofs.FramesLists.{got_set, got_other}
use Rattle.hy_refinement.proofs.EndedOpens.{ended, sessions_ended, ended_other, ended_itself, of_open_ended, still_open}

module _ (setting : Setting) (state : State) (core : CoreData) (sessions : List SessionData) (core_shows : CoreShows state core sessions)
    (sessions_show : SessionsShow setting state core sessions) (number : ℕ) (session : SessionData) (now : Open) (current : MachineOpen) (ending : Ending)
    (is : IsOpen state sessions number session now current) (unmarked : (other : ℕ) → (other ≡ number → ⊥) → state.mark ≢ Some other) where
  -- ---- the core

  -- as many transactions have begun
  same_begun : count_begun (ended state number ending) ≡ count_begun state
  same_begun =
      let there = is_there state number current is.open_there in
      let counts = sum_by-set (λ (one : Session). length one.done + count_open one.now) state.sessions number
      (with_ended ending (session_at state number)) fresh
      (slice_get_within state.sessions number (session_at state number) there) in
      let now_one : count_open (session_at state number).now ≡ 1 = ap count_open is.open_there in
      let one_more : length (done_with ending (session_at state number).done (session_at state number).now) ≡ length (session_at state number).done + 1 =
      ap (λ (o : Option MachineOpen). length (done_with ending (session_at state number).done o)) is.open_there
      ∙ length-append (session_at state number).done (record { begun = current.begun; ending = ending } ∷ []) in
      omega (arith, counts, now_one, one_more)

  times_apart : TimesApart (ended state number ending) (core_left core now.start) (sessions_ended sessions number session ending)
  times_apart =
      let was = core_shows.times_apart in record {
        times = was.times;
        starts = of_open_ended (λ (other : ℕ) (one : SessionData) (present : Open) (there : MachineOpen). present.start < core.next)
            state sessions number session now current ending is (λ other one present there apart open'. was.starts other one present there open');
        apart = of_open_ended (λ (other : ℕ) (one : SessionData) (present : Open) (there : MachineOpen).
            (rank : ℕ) (entry : Entry) → slice_get core.entries rank ≡ Some entry → entry.time ≡ present.start → ⊥)
            state sessions number session now current ending is (λ other one present there apart open'. was.apart other one present there open');
        one_each = of_open_ended (λ (other : ℕ) (one : SessionData) (present : Open) (there : MachineOpen).
            OfOpen (ended state number ending) (sessions_ended sessions number session ending)
            (λ (third : ℕ) (another : SessionData) (last : Open) (at : MachineOpen). present.start ≡ last.start → other ≡ third))
            state sessions number session now current ending is (λ other one present there apart open'.
            of_open_ended (λ (third : ℕ) (another : SessionData) (last : Open) (at : MachineOpen). present.start ≡ last.start → other ≡ third)
            state sessions number session now current ending is (λ third another last at away open''.
            was.one_each other one present there open' third another last at open''));
        next = let next = was.next in omega (arith, next, same_begun);
      }

  active_is : ActiveIs (ended state number ending) (core_left core now.start) (sessions_ended sessions number session ending)
  active_is =
      let was = core_shows.active_is in record {
        rises = rise_without now.start core.active was.rises;
        has = of_open_ended (λ (other : ℕ) (one : SessionData) (present : Open) (there : MachineOpen). Contains (without now.start core.active) present.start)
            state sessions number session now current ending is (λ other one present there apart open'.
            still_in now.start present.start core.active
            (λ same. apart (core_shows.times_apart.one_each other one present there open' number session now current is same))
            (was.has other one present there open'));
        only = λ start c.
            let found = was.only start (was_in now.start start core.active c) in
            still_starts start found (λ same. not_in now.start start core.active was.rises c (starts_same start found same));
      }
    where
      starts_same : (start : ℕ) (found : IsStart state sessions start) → found.number ≡ number → start ≡ now.start
      starts_same start found same =
          let it = open_once state sessions number found.number session found.session now found.now current found.current is found.is_open same in
          sym found.start_is ∙ ap (λ (o : Open). o.start) it.now_is

      still_starts : (start : ℕ) (found : IsStart state sessions start) → (found.number ≡ number → ⊥)
          → IsStart (ended state number ending) (sessions_ended sessions number session ending) start
      still_starts start found apart = record {
        number = found.number;
        session = found.session;
        now = found.now;
        current = found.current;
        is_open = still_open state sessions number session ending found.number found.session found.now found.current apart found.is_open;
        start_is = found.start_is;
      }

  pub core_ended : CoreShows (ended state number ending) (core_left core now.start) (sessions_ended sessions number session ending)
  core_ended = record {
    entries_show = core_shows.entries_show;
    times_rise = core_shows.times_rise;
    times_apart = times_apart;
    active_is = active_is;
    mark_shows = record {
      mark = refl;
      stamping = of_open_ended (λ (other : ℕ) (one : SessionData) (present : Open) (there : MachineOpen).
          (visited : ℕ) → present.phase ≡ phase.Stamping visited → StampingShows (core_left core now.start) present there)
          state sessions number session now current ending is (λ other one present there apart open' visited e.
          let was = core_shows.mark_shows.stamping other one present there open' visited e in record {
            entry = was.entry;
            last = was.last;
            time_is = was.time_is;
            wrote = was.wrote;
          });
    };
  }

  -- ---- the other sessions

  other_now : (other : ℕ) → (other ≡ number → ⊥) → (here : Option Open) (there : Option MachineOpen) → NowShows setting state core other here there
      → NowShows setting (ended state number ending) (core_left core now.start) other here there
  other_now other apart None None shows = tt
  other_now other apart None (Some there) shows = absurd shows
  other_now other apart (Some present) None shows = absurd shows
  other_now other apart (Some present) (Some there) shows = record {
    prefix_counts = record { early = shows.prefix_counts.early; late = shows.prefix_counts.late };
    low_counts = record { early = shows.low_counts.early; late = shows.low_counts.late };
    cover_holds = record {
      below = shows.cover_holds.below;
      held = record {
        past = shows.cover_holds.held.past;
        safe = λ start c. shows.cover_holds.held.safe start (was_in now.start start core.active c);
      };
    };
    open_shows = shows.open_shows;
    notes_show = λ _.
        let notes = shows.notes_show (unmarked other apart) in
        record { all = notes.all; saved = notes.saved };
    gathered_shows = λ visited count e.
        subst (λ (one : Session). GatheredBy setting (view setting state there.begun) visited present.gathered
        (statement_at (txn_at setting other one) (length present.replies)))
        (sym (ended_other state number other ending apart)) (shows.gathered_shows visited count e);
  }

  other_shows : (other : ℕ) (one : SessionData) → (other ≡ number → ⊥) → SessionShows setting state core other one
      → SessionShows setting (ended state number ending) (core_left core now.start) other one
  other_shows other one apart shows = record {
    session_is = shows.session_is;
    done_shows = shows.done_shows ∙ ap (λ (s : Session). outcomes_from setting other 0 s.done) (sym (ended_other state number other ending apart));
    now_shows = subst (λ (s : Session). NowShows setting (ended state number ending) (core_left core now.start) other one.now s.now)
        (sym (ended_other state number other ending apart)) (other_now other apart one.now (session_at state other).now shows.now_shows);
  }

  -- ---- the session whose transaction has ended

  module _ (fits : Fits setting state) (wrote : written now ≡ written_there current.begun.own) where
    was : SessionShows setting state core number session
    was = sessions_show.each number session is.found

    open_is : OpenShows setting state core number now current
    open_is = open_shown setting state core sessions number session now current sessions_show is

    as_many : length session.done ≡ length (session_at state number).done
    as_many = ap (λ (done : List TxnOutcome). length done) was.done_shows ∙ outcomes_length setting number 0 (session_at state number).done

    outcome : outcome_of session now ending
        ≡ txn_outcome_of setting number (length (session_at state number).done) (record { begun = current.begun; ending = ending })
    outcome =
        outcome_is setting number (length (session_at state number).done) session now current ending (same_label setting state core number session was)
        open_is.open_shows.prefix open_is.open_shows.replies open_is.open_shows.took wrote
        (ap (λ (program : List Txn). slice_get program (length session.done)) was.session_is.program
        ∙ ap (slice_get (program_of setting number)) as_many)
        (let shapes = fits.shapes in let same = ap length was.session_is.shapes in omega (arith, shapes, same))

    done_is : (ended_here ending session).done ≡ outcomes_from setting number 0 (with_ended ending (session_at state number)).done
    done_is =
        ap (done_here session ending) is.open_here
        ∙ (ap (λ (done : List TxnOutcome). done ++ outcome_of session now ending ∷ []) was.done_shows
        ∙ (ap (λ (one : TxnOutcome). outcomes_from setting number 0 (session_at state number).done ++ one ∷ []) outcome
        ∙ (ap (λ (n : ℕ). outcomes_from setting number 0 (session_at state number).done
        ++ txn_outcome_of setting number n (record { begun = current.begun; ending = ending }) ∷ [])
        (let e : length (session_at state number).done ≡ 0 + length (session_at state number).done = omega arith in e)
        ∙ (sym (one_more_outcome setting number 0 (session_at state number).done (record { begun = current.begun; ending = ending }))
        ∙ ap (λ (o : Option MachineOpen). outcomes_from setting number 0 (done_with ending (session_at state number).done o)) (sym is.open_there)))))

    itself_shows : SessionShows setting (ended state number ending) (core_left core now.start) number (ended_here ending session)
    itself_shows = record {
      session_is = record {
        number_is = was.session_is.number_is;
        program = was.session_is.program;
        shapes = was.session_is.shapes;
        chunks = was.session_is.chunks;
        rows = was.session_is.rows;
      };
      done_shows = done_is ∙ ap (λ (s : Session). outcomes_from setting number 0 s.done) (sym (ended_itself state number current ending is.open_there));
      now_shows = subst (λ (s : Session). NowShows setting (ended state number ending) (core_left core now.start) number None s.now)
          (sym (ended_itself state number current ending is.open_there)) tt;
    }

    pub sessions_ended_show : SessionsShow setting (ended state number ending) (core_left core now.start) (sessions_ended sessions number session ending)
    sessions_ended_show = record {
      count = length-set sessions number (ended_here ending session) ∙ sessions_show.count;
      each = λ other one e. elim (cases_eq other number) [
        | inl same ↦
            let one_is : ended_here ending session ≡ one = same_Some (ended_here ending session) one
            (sym (got_set sessions number session (ended_here ending session) is.found)
            ∙ (ap (slice_get (sessions_ended sessions number session ending)) (sym same) ∙ e)) in
            subst (λ (n : ℕ). SessionShows setting (ended state number ending) (core_left core now.start) n one) (sym same)
            (subst (λ (s : SessionData). SessionShows setting (ended state number ending) (core_left core now.start) number s) one_is itself_shows)
        | inr apart ↦
            other_shows other one apart
            (sessions_show.each other one (sym (got_other sessions number other (ended_here ending session) apart) ∙ e))
      ];
    }
