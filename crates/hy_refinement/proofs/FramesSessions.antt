-- Where one transaction goes on the sessions show what they showed.
use Rattle.std.proofs.Common.{◌≡◌, ◌≢◌, ℕ, List, length, set, Option, None, Some, sym, ap, ◌∙◌, subst, arith, inl, inr}
use Rattle.std.specs.Prelude.{slice_get}
use Rattle.std.proofs.lemmas.Bool.{cases_eq}
use Rattle.std.proofs.lemmas.Option.{same_Some}
use Rattle.hy_prune.specs.declared.Cover.{Cover}
use Rattle.hy_prune.specs.Fates.{watermark_of}
use Rattle.hy_journal.specs.declared.CoreData.{CoreData}
use Rattle.hy_event.specs.declared.SessionData.{SessionData}
use Rattle.hy_event.specs.declared.Open.{Open}
use Rattle.hy_machine.specs.declared.Setting.{Setting}
use Rattle.hy_machine.specs.States.{State, Session, Finished, Open as MachineOpen}
use Rattle.hy_machine.specs.Sessions.{session_at, program_of, view}
use Rattle.hy_machine.specs.Outcomes.{outcomes_from}
use Rattle.hy_refinement.specs.Transactions.{IsOpen}
use Rattle.hy_refinement.specs.Sessions.{NotesShow, GatheredShows, GatheredBy, CountsBelow, IsHeld, OpenShows, NowShows, SessionShows, statement_at}
use Rattle.hy_refinement.specs.Shows.{SessionsShow}
use Rattle.hy_refinement.specs.Frames.{gone_on, went_on, sessions_on, KeepsStart, WentOn}
use Rattle.hy_refinement.proofs.RivalTops.{open_shown}
use Rattle.hy_refinement.proofs.FramesLists.{got_set, got_other, set_length}
use Rattle.hy_refinement.proofs.FramesOpened.{goes_there, stays_there, done_stays}

module _ (setting : Setting) (state : State) (core : CoreData) (sessions : List SessionData) (number : ℕ) (session : SessionData)
    (now then : Open) (current later : MachineOpen)
    (is : IsOpen state sessions number session now current) (keeps : KeepsStart now then current later)
    (on : WentOn setting state core number then later) (shows : SessionsShow setting state core sessions) where
  abbrev after : State
  after = gone_on state number later

  done_same : (other : ℕ) → (session_at state other).done ≡ (session_at after other).done
  done_same other = sym (done_stays state number other current later is.open_there)

  notes_stay : (its : Open) (present : MachineOpen) → NotesShow setting state its present → NotesShow setting after its present
  notes_stay its present show = record { all = show.all; saved = show.saved }

  gathered_stay : (other : ℕ) (its : Open) (present : MachineOpen) → GatheredShows setting state other its present → GatheredShows setting after other its present
  gathered_stay other its present show visited count e =
      subst (λ (done : List Finished). GatheredBy setting (view setting state present.begun) visited its.gathered
      (statement_at (slice_get (program_of setting other) (length done)) (length its.replies))) (done_same other) (show visited count e)

  -- ---- the others

  open_stays : (other : ℕ) (its : Open) (present : MachineOpen) → OpenShows setting state core other its present → OpenShows setting after core other its present
  open_stays other its present show = record {
    prefix_counts = show.prefix_counts;
    low_counts = show.low_counts;
    cover_holds = show.cover_holds;
    open_shows = show.open_shows;
    notes_show = λ unmarked. notes_stay its present (show.notes_show unmarked);
    gathered_shows = gathered_stay other its present show.gathered_shows;
  }

  now_stays : (other : ℕ) (here : Option Open) (there : Option MachineOpen) → NowShows setting state core other here there
      → NowShows setting after core other here there
  now_stays other None None show = tt
  now_stays other None (Some present) show = show
  now_stays other (Some its) None show = show
  now_stays other (Some its) (Some present) show = open_stays other its present show

  other_stays : (other : ℕ) (another : SessionData) → other ≢ number → SessionShows setting state core other another
      → SessionShows setting after core other another
  other_stays other another apart show = record {
    session_is = show.session_is;
    done_shows = show.done_shows ∙ ap (outcomes_from setting other 0) (done_same other);
    now_shows = now_stays other another.now (session_at after other).now
        (subst (λ (one : Session). NowShows setting state core other another.now one.now) (sym (stays_there state number other later apart)) show.now_shows);
  }

  -- ---- the one that goes on

  opened_shows : OpenShows setting after core number then later
  opened_shows =
      let was = open_shown setting state core sessions number session now current shows is in
      record {
        prefix_counts =
            subst (λ (n : ℕ). CountsBelow core.entries n then.start) (sym keeps.prefix)
            (subst (λ (n : ℕ). CountsBelow core.entries now.prefix n) (sym keeps.start) was.prefix_counts);
        low_counts =
            subst (λ (n : ℕ). CountsBelow core.entries n (watermark_of then.cover)) (sym keeps.low_there)
            (subst (λ (cover : Cover). CountsBelow core.entries current.begun.low (watermark_of cover)) (sym keeps.cover) was.low_counts);
        cover_holds = record {
          below = let b = was.cover_holds.below in let w = ap watermark_of keeps.cover in let s = keeps.start in omega (arith, b, w, s);
          held = subst (λ (cover : Cover). IsHeld core cover) (sym keeps.cover) was.cover_holds.held;
        };
        open_shows = on.open_shows;
        notes_show = λ unmarked. notes_stay then later (on.notes_show unmarked);
        gathered_shows = gathered_stay number then later on.gathered_shows;
      }

  one_shows : SessionShows setting after core number (went_on session then)
  one_shows =
      let was = shows.each number session is.found in
      record {
        session_is = record {
          number_is = was.session_is.number_is;
          program = was.session_is.program;
          shapes = was.session_is.shapes;
          chunks = was.session_is.chunks;
          rows = was.session_is.rows;
        };
        done_shows = was.done_shows ∙ ap (outcomes_from setting number 0) (done_same number);
        now_shows = subst (λ (one : Session). NowShows setting after core number (Some then) one.now)
            (sym (goes_there state number current later is.open_there)) opened_shows;
      }

  pub sessions_stay : SessionsShow setting after core (sessions_on sessions number session then)
  sessions_stay = record {
    count = set_length sessions number (went_on session then) ∙ shows.count;
    each = λ other another found. elim (cases_eq other number) [
      | inl e ↦
          let here : slice_get (set sessions number (went_on session then)) number ≡ Some another =
          sym (ap (slice_get (set sessions number (went_on session then))) e) ∙ found in
          let one : went_on session then ≡ another =
          same_Some (went_on session then) another (sym (got_set sessions number session (went_on session then) is.found) ∙ here) in
          subst (λ (n : ℕ). SessionShows setting after core n another) (sym e)
          (subst (λ (s : SessionData). SessionShows setting after core number s) one one_shows)
      | inr apart ↦
          other_stays other another apart
          (shows.each other another (sym (got_other sessions number other (went_on session then) apart) ∙ found))
    ];
  }
