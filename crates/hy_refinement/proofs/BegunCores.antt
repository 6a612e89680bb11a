-- After a BEGIN the core shows the state: the start is open from then on.
use Rattle.std.proofs.Common.{◌≡◌, ℕ, suc, ◌<◌, List, [], ◌∷◌, ◌++◌, length, Contains, Option, None, Some}
use Rattle.std.proofs.Common.{refl, sym, ap, ◌∙◌, subst, arith, inl, inr}
use Rattle.std.specs.Prelude.{slice_get}
use Rattle.std.specs.List.{AllByRecursion}
use Rattle.std.specs.Option.{option_map}
use Rattle.std.proofs.lemmas.List.Elements.{Contains-append_left, Contains-push, Contains-push_cases}
use Rattle.hy_prune.specs.OpenStarts.{Rise}
use Rattle.hy_journal.specs.declared.CoreData.{CoreData}
use Rattle.hy_journal.specs.declared.Entry.{Entry}
use Rattle.hy_journal.specs.Core.{core_begun}
use Rattle.hy_event.specs.declared.SessionData.{SessionData}
use Rattle.hy_event.specs.declared.Open.{Open}
use Rattle.hy_protocol.specs.declared.Phase.{Phase}
use Rattle.hy_protocol.specs.declared.Phase.TheVariants as phase
use Rattle.hy_event.specs.Turns.{beginning}
use Rattle.hy_machine.specs.declared.Setting.{Setting}
use Rattle.hy_machine.specs.States.{State, Open as MachineOpen}
use Rattle.hy_machine.specs.Sessions.{session_at, label_of}
use Rattle.hy_refinement.specs.Transactions.{IsOpen, OfOpen}
use Rattle.hy_refinement.specs.Numbers.{IsStart, StampingShows, CoreShows}
use Rattle.hy_refinement.specs.Frames.{went_on, sessions_on}
use Rattle.hy_refinement.proofs.Stamps.{first_of, behind}
use Rattle.hy_refinement.proofs.BegunStates.{begun_there, begun_state, OpenThen, begins, stays, open_then, opens_it, opens_still, not_open, one_more}

-- what is known before a BEGIN
pub record Beginning (setting : Setting) (state : State) (core : CoreData) (sessions : List SessionData) (number : ℕ) (session : SessionData) : Type 0 where
  pub found : slice_get sessions number ≡ Some session
  pub within : number < length state.sessions
  pub rests : session.now ≡ None
  pub rests_there : (session_at state number).now ≡ None
  pub unmarked : state.mark ≡ None
  pub core_shows : CoreShows state core sessions

-- a list that rises still does so with a greater number behind it
below_push : (first : ℕ) (starts : List ℕ) (last : ℕ) → first < last → AllByRecursion (λ later. first < later) starts
    → AllByRecursion (λ later. first < later) (starts ++ last ∷ [])
below_push first [] last less all = (less, tt)
below_push first (start ∷ starts) last less all = (all.0, below_push first starts last less all.1)

rise_push : (starts : List ℕ) (last : ℕ) → ((start : ℕ) → Contains starts start → start < last) → Rise starts → Rise (starts ++ last ∷ [])
rise_push [] last below rises = (tt, tt)
rise_push (start ∷ starts) last below rises = (
  below_push start starts last (below start (first_of start starts)) rises.0,
  rise_push starts last (λ other c. below other (behind start other starts c)) rises.1,
)

module _ (setting : Setting) (state : State) (core : CoreData) (sessions : List SessionData) (number : ℕ) (session : SessionData)
    (at : Beginning setting state core sessions number session) where
  abbrev after : State
  after = begun_state setting state number

  abbrev sessions_after : List SessionData
  sessions_after = sessions_on sessions number session (beginning core)

  -- what holds of the one that begins and of the others holds of every open transaction
  pub each_then : (holds : ℕ → SessionData → Open → MachineOpen → Type 0)
      → holds number (went_on session (beginning core)) (beginning core) (begun_there setting state)
      → ((other : ℕ) (another : SessionData) (its : Open) (present : MachineOpen) → IsOpen state sessions other another its present
      → holds other another its present)
      → OfOpen after sessions_after holds
  each_then holds mine others other another its present open' =
      by (open_then setting state core sessions number session at.found at.within other another its present open')
    where
      by : OpenThen setting state core sessions number session other another its present → holds other another its present
      by (stays apart was) = others other another its present was
      by (begins e f g h) =
          subst (λ (one : MachineOpen). holds other another its one) (sym h)
          (subst (λ (one : Open). holds other another one (begun_there setting state)) (sym g)
          (subst (λ (one : SessionData). holds other one (beginning core) (begun_there setting state)) (sym f)
          (subst (λ (n : ℕ). holds n (went_on session (beginning core)) (beginning core) (begun_there setting state)) (sym e) mine)))

  -- who was open is open still
  pub still : (other : ℕ) (another : SessionData) (its : Open) (present : MachineOpen) → IsOpen state sessions other another its present
      → IsOpen after sessions_after other another its present
  still other another its present is =
      opens_still setting state core sessions number session other another its present
      (not_open state sessions number other session another its present at.found at.rests is) is

  -- ---- times

  start_below : (start : ℕ) → Contains core.active start → start < core.next
  start_below start c =
      let is = at.core_shows.active_is.only start c in
      let less = at.core_shows.times_apart.starts is.number is.session is.now is.current is.is_open in
      let same = is.start_is in omega (arith, less, same)

  starts : OfOpen after sessions_after (λ other another its present. its.start < suc core.next)
  starts = each_then (λ other another its present. its.start < suc core.next) (omega arith)
      (λ other another its present was. let less = at.core_shows.times_apart.starts other another its present was in omega (arith, less))

  aparts : OfOpen after sessions_after (λ other another its present.
      (rank : ℕ) (entry : Entry) → slice_get core.entries rank ≡ Some entry → entry.time ≡ its.start → ⊥)
  aparts = each_then (λ other another its present. (rank : ℕ) (entry : Entry) → slice_get core.entries rank ≡ Some entry → entry.time ≡ its.start → ⊥)
      (λ rank entry e same. let less = at.core_shows.times_apart.times rank entry e in absurd (omega (arith, less, same)))
      at.core_shows.times_apart.apart

  one_start : OfOpen after sessions_after (λ other another its present.
      OfOpen after sessions_after (λ third one theirs that. its.start ≡ theirs.start → other ≡ third))
  one_start = each_then (λ other another its present. OfOpen after sessions_after (λ third one theirs that. its.start ≡ theirs.start → other ≡ third))
      (each_then (λ third one theirs that. core.next ≡ theirs.start → number ≡ third) (λ e. refl)
      (λ third one theirs that was e. let less = at.core_shows.times_apart.starts third one theirs that was in absurd (omega (arith, less, e))))
      (λ other another its present was.
      each_then (λ third one theirs that. its.start ≡ theirs.start → other ≡ third)
      (λ e. let less = at.core_shows.times_apart.starts other another its present was in absurd (omega (arith, less, e)))
      (at.core_shows.times_apart.one_each other another its present was))

  start_is : (start : ℕ) → Contains (core.active ++ core.next ∷ []) start → IsStart after sessions_after start
  start_is start c = elim (Contains-push_cases core.active core.next start c) [
    | inl old ↦
        let was = at.core_shows.active_is.only start old in
        record {
          number = was.number;
          session = was.session;
          now = was.now;
          current = was.current;
          is_open = still was.number was.session was.now was.current was.is_open;
          start_is = was.start_is;
        }
    | inr new ↦ record {
      number = number;
      session = went_on session (beginning core);
      now = beginning core;
      current = begun_there setting state;
      is_open = opens_it setting state core sessions number session at.found at.within;
      start_is = new;
    }
  ]

  -- ---- the mark

  none_marked : (there : State) (mark : Option ℕ) → mark ≡ None
      → option_map (λ (marked : ℕ). label_of marked (session_at there marked)) mark ≡ None
  none_marked there None e = refl
  none_marked there (Some marked) e = absurd cc

  stamping : OfOpen after sessions_after (λ other another its present.
      (visited : ℕ) → its.phase ≡ phase.Stamping visited → StampingShows (core_begun core) its present)
  stamping = each_then
      (λ other another its present. (visited : ℕ) → its.phase ≡ phase.Stamping visited → StampingShows (core_begun core) its present)
      (λ visited e. absurd (let f : 0 ≡ 1 = ap kind_of e in cc))
      (λ other another its present was visited e.
      let had = at.core_shows.mark_shows.stamping other another its present was visited e in
      record { entry = had.entry; last = had.last; time_is = had.time_is; wrote = had.wrote })
    where
      kind_of : Phase → ℕ
      kind_of (phase.Working visited count) = 0
      kind_of (phase.Stamping visited) = 1
      kind_of (phase.Undoing visited cause) = 2

  -- ---- the core

  pub core_begun_shows : CoreShows after (core_begun core) sessions_after
  core_begun_shows = record {
    entries_show = at.core_shows.entries_show;
    times_rise = at.core_shows.times_rise;
    times_apart = record {
      times = λ rank entry e. let less = at.core_shows.times_apart.times rank entry e in omega (arith, less);
      starts = starts;
      apart = aparts;
      one_each = one_start;
      next = let next = at.core_shows.times_apart.next in
          let more = one_more setting state number at.within at.rests_there in omega (arith, next, more);
    };
    active_is = record {
      rises = rise_push core.active core.next start_below at.core_shows.active_is.rises;
      has = each_then (λ other another its present. Contains (core.active ++ core.next ∷ []) its.start)
          (Contains-push core.active core.next)
          (λ other another its present was.
          Contains-append_left core.active (core.next ∷ []) its.start (at.core_shows.active_is.has other another its present was));
      only = start_is;
    };
    mark_shows = record {
      mark = at.core_shows.mark_shows.mark ∙ (none_marked state state.mark at.unmarked ∙ sym (none_marked after state.mark at.unmarked));
      stamping = stamping;
    };
  }
