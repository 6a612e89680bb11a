-- Where one transaction goes on the core shows what it showed.
use Rattle.std.proofs.Common.{◌≡◌, ℕ, suc, ◌+◌, ◌<◌, List, length, Contains, Option, None, Some, refl, sym, ap, ◌∙◌, subst, inl, inr}
use Rattle.std.specs.Prelude.{slice_get}
use Rattle.std.specs.Option.{option_map}
use Rattle.std.proofs.lemmas.Bool.{cases_eq}
use Rattle.hy_stamp.specs.declared.Label.{Label}
use Rattle.hy_journal.specs.declared.CoreData.{CoreData}
use Rattle.hy_journal.specs.declared.Entry.{Entry}
use Rattle.hy_event.specs.declared.SessionData.{SessionData}
use Rattle.hy_event.specs.declared.Open.{Open}
use Rattle.hy_protocol.specs.declared.Phase.TheVariants as phase
use Rattle.hy_machine.specs.declared.Setting.{Setting}
use Rattle.hy_machine.specs.States.{State, Session, Finished, Open as MachineOpen}
use Rattle.hy_machine.specs.Sessions.{session_at, label_of}
use Rattle.hy_machine.specs.Begun.{count_open, count_begun}
use Rattle.hy_refinement.specs.Transactions.{IsOpen, OfOpen}
use Rattle.hy_refinement.specs.Numbers.{TimesApart, ActiveIs, IsStart, StampingShows, CoreShows}
use Rattle.hy_refinement.specs.Frames.{gone_on, went_on, sessions_on, KeepsStart, WentOn}
use Rattle.hy_refinement.proofs.Holders.{is_there}
use Rattle.hy_refinement.proofs.FramesLists.{sum_set}
use Rattle.hy_refinement.proofs.FramesOpened.{done_stays, opens_here, opens_other, open_once, each_open}

module _ (state : State) (core : CoreData) (sessions : List SessionData) (number : ℕ) (session : SessionData)
    (now then : Open) (current later : MachineOpen)
    (is : IsOpen state sessions number session now current) (keeps : KeepsStart now then current later) (shows : CoreShows state core sessions) where
  abbrev after : State
  after = gone_on state number later

  abbrev sessions_after : List SessionData
  sessions_after = sessions_on sessions number session then

  -- ---- times

  begun_same : count_begun after ≡ count_begun state
  begun_same =
      sum_set (λ (one : Session). length one.done + count_open one.now) state.sessions number (session_at state number)
      (record { done = (session_at state number).done; now = Some later }) (is_there state number current is.open_there)
      (ap (λ (there : Option MachineOpen). length (session_at state number).done + count_open there) (sym is.open_there))

  starts : OfOpen after sessions_after (λ other another its present. its.start < core.next)
  starts = each_open state sessions number session now then current later is (λ other another its present. its.start < core.next)
      (subst (λ (n : ℕ). n < core.next) (sym keeps.start) (shows.times_apart.starts number session now current is)) shows.times_apart.starts

  aparts : OfOpen after sessions_after (λ other another its present.
      (rank : ℕ) (entry : Entry) → slice_get core.entries rank ≡ Some entry → entry.time ≡ its.start → ⊥)
  aparts = each_open state sessions number session now then current later is
      (λ other another its present. (rank : ℕ) (entry : Entry) → slice_get core.entries rank ≡ Some entry → entry.time ≡ its.start → ⊥)
      (λ rank entry e f. shows.times_apart.apart number session now current is rank entry e (f ∙ keeps.start)) shows.times_apart.apart

  -- a start is of one transaction
  one_start : OfOpen after sessions_after (λ other another its present.
      OfOpen after sessions_after (λ third one theirs there. its.start ≡ theirs.start → other ≡ third))
  one_start = each_open state sessions number session now then current later is
      (λ other another its present. OfOpen after sessions_after (λ third one theirs there. its.start ≡ theirs.start → other ≡ third))
      (each_open state sessions number session now then current later is (λ third one theirs there. then.start ≡ theirs.start → number ≡ third)
      (λ e. refl)
      (λ third one theirs there open' e.
      shows.times_apart.one_each number session now current is third one theirs there open' (sym keeps.start ∙ e)))
      (λ other another its present open'.
      each_open state sessions number session now then current later is (λ third one theirs there. its.start ≡ theirs.start → other ≡ third)
      (λ e. shows.times_apart.one_each other another its present open' number session now current is (e ∙ keeps.start))
      (λ third one theirs there open'' e. shows.times_apart.one_each other another its present open' third one theirs there open'' e))

  start_is : (start : ℕ) → IsStart state sessions start → IsStart after sessions_after start
  start_is start was = elim (cases_eq was.number number) [
    | inl e ↦
        let one = open_once state sessions number was.number session was.session now was.now current was.current is was.is_open e in
        record {
          number = number;
          session = went_on session then;
          now = then;
          current = later;
          is_open = opens_here state sessions number session now then current later is;
          start_is = keeps.start ∙ (sym (ap (λ (here : Open). here.start) one.now_is) ∙ was.start_is);
        }
    | inr apart ↦ record {
      number = was.number;
      session = was.session;
      now = was.now;
      current = was.current;
      is_open = opens_other state sessions number session then later was.number was.session was.now was.current apart was.is_open;
      start_is = was.start_is;
    }
  ]

  pub times_stay : TimesApart after core sessions_after
  times_stay = record {
    times = shows.times_apart.times;
    starts = starts;
    apart = aparts;
    one_each = one_start;
    next = shows.times_apart.next ∙ ap (λ (n : ℕ). 1 + n + length state.order) (sym begun_same);
  }

  pub active_stays : ActiveIs after core sessions_after
  active_stays = record {
    rises = shows.active_is.rises;
    has = each_open state sessions number session now then current later is (λ other another its present. Contains core.active its.start)
        (subst (λ (n : ℕ). Contains core.active n) (sym keeps.start) (shows.active_is.has number session now current is)) shows.active_is.has;
    only = λ start c. start_is start (shows.active_is.only start c);
  }

  -- ---- the mark

  marked_same : (mark : Option ℕ)
      → option_map (λ (marked : ℕ). label_of marked (session_at state marked)) mark
      ≡ option_map (λ (marked : ℕ). label_of marked (session_at after marked)) mark
  marked_same None = refl
  marked_same (Some marked) =
      ap (λ (done : List Finished). let label : Label = record { session = marked; txn = suc (length done) } in Some label)
      (sym (done_stays state number marked current later is.open_there))

  module _ (setting : Setting) (on : WentOn setting state core number then later) where
    stamping : OfOpen after sessions_after (λ other another its present.
        (visited : ℕ) → its.phase ≡ phase.Stamping visited → StampingShows core its present)
    stamping = each_open state sessions number session now then current later is
        (λ other another its present. (visited : ℕ) → its.phase ≡ phase.Stamping visited → StampingShows core its present)
        on.stamping shows.mark_shows.stamping

    pub core_stays : CoreShows after core sessions_after
    core_stays = record {
      entries_show = shows.entries_show;
      times_rise = shows.times_rise;
      times_apart = times_stay;
      active_is = active_stays;
      mark_shows = record { mark = shows.mark_shows.mark ∙ marked_same state.mark; stamping = stamping };
    }
