-- After a BEGIN the sessions show the state: the one that begins has the whole journal before it, and its cover is held.
use Rattle.std.proofs.Common.{◌≡◌, ◌⊎◌, ℕ, zero, suc, ◌<◌, ◌≤◌, List, [], ◌∷◌, ◌++◌, length, Contains, Option, None, Some}
use Rattle.std.proofs.Common.{refl, sym, ap, ◌∙◌, subst, arith, inl, inr}
use Rattle.std.specs.Prelude.{slice_get, min}
use Rattle.std.specs.List.{AllByRecursion}
use Rattle.std.proofs.Math.ListN.{set}
use Rattle.std.proofs.lemmas.Bool.{cases_eq, cases_lt}
use Rattle.std.proofs.lemmas.List.Elements.{Contains-push_cases}
use Rattle.std.proofs.lemmas.Option.{same_Some, slice_get_within, get_or_from_slice_get}
use Rattle.hy_prune.specs.declared.Cover.{Cover}
use Rattle.hy_prune.specs.Fates.{watermark_of}
use Rattle.hy_prune.specs.OpenStarts.{Rise}
use Rattle.hy_journal.specs.declared.CoreData.{CoreData}
use Rattle.hy_journal.specs.declared.Entry.{Entry}
use Rattle.hy_journal.specs.Core.{core_begun}
use Rattle.hy_event.specs.declared.SessionData.{SessionData}
use Rattle.hy_event.specs.declared.Open.{Open}
use Rattle.hy_protocol.specs.declared.Phase.{Phase}
use Rattle.hy_protocol.specs.declared.Phase.TheVariants as phase
use Rattle.hy_event.specs.Turns.{beginning}
use Rattle.hy_machine.specs.declared.Setting.{Setting}
use Rattle.hy_machine.specs.States.{State, Session, Finished, Open as MachineOpen}
use Rattle.hy_machine.specs.Positions.{item_at}
use Rattle.hy_machine.specs.Sessions.{session_at, fresh, program_of, snapshot, view, pair_of, least_with, least_prefix, txn_at}
use Rattle.hy_machine.specs.Outcomes.{outcomes_from}
use Rattle.hy_machine.specs.Kept.{Fits, Starts}
use Rattle.hy_refinement.specs.Numbers.{noted}
use Rattle.hy_refinement.specs.Sessions.{CountsBelow, IsHeld, GatheredBy, statement_at, NowShows, OpenShows, SessionShows}
use Rattle.hy_refinement.specs.Gathered.{gathered_first}
use Rattle.hy_refinement.specs.Frames.{went_on, sessions_on}
use Rattle.hy_refinement.specs.Shows.{SessionsShow}
use Rattle.hy_refinement.proofs.Holders.{is_there, opened}
use Rattle.hy_refinement.proofs.RivalTops.{open_shown}
use Rattle.hy_refinement.proofs.Stamps.{first_of, here_or}
use Rattle.hy_refinement.proofs.FramesLists.{got_set, got_other, set_length}
use Rattle.hy_refinement.proofs.BegunStates.{begun_there, begun_state, begins_there, others_there, nothing_own}
use Rattle.hy_refinement.proofs.BegunCores.{Beginning}

-- ---- the least prefix

-- the least of a number and of open prefixes is that number, or one of those
pub data LeastIs (sessions : List Session) (least : ℕ) : ℕ → Type 0 where
  the_number : LeastIs sessions least least
  of_one : (k : ℕ) (session : Session) (current : MachineOpen) → slice_get sessions k ≡ Some session → session.now ≡ Some current
      → LeastIs sessions least current.begun.prefix

-- it is one of these, and none of them is less
pub record LeastOf (sessions : List Session) (least found : ℕ) : Type 0 where
  pub is : LeastIs sessions least found
  pub at_most : found ≤ least
  pub below : (k : ℕ) (session : Session) (current : MachineOpen) → slice_get sessions k ≡ Some session → session.now ≡ Some current → found ≤ current.begun.prefix

min_left : (a b : ℕ) → min a b ≤ a
min_left a b = omega arith

min_right : (a b : ℕ) → min a b ≤ b
min_right a b = omega arith

least_of : (sessions : List Session) (least : ℕ) → LeastOf sessions least (least_prefix least sessions)
least_of [] least = record { is = the_number; at_most = omega arith; below = λ k session current e. absurd cc }
least_of (first ∷ sessions) least =
    by_now first.now refl (least_of sessions (least_with least first.now))
  where
    later : (found : ℕ) → LeastIs sessions least found → LeastIs (first ∷ sessions) least found
    later _ the_number = the_number
    later _ (of_one k session current e f) = of_one (suc k) session current e f

    here_or_later : (current : MachineOpen) → first.now ≡ Some current → (found : ℕ) → LeastIs sessions (min current.begun.prefix least) found
        → LeastIs (first ∷ sessions) least found
    here_or_later current is _ the_number = elim (cases_lt current.begun.prefix least) [
      | inl less ↦
          let one : current.begun.prefix ≡ min current.begun.prefix least = omega (arith, less) in
          subst (λ (n : ℕ). LeastIs (first ∷ sessions) least n) one (of_one zero first current refl is)
      | inr more ↦
          let one : least ≡ min current.begun.prefix least = omega (arith, more) in
          subst (λ (n : ℕ). LeastIs (first ∷ sessions) least n) one the_number
    ]
    here_or_later current is _ (of_one k session other e f) = of_one (suc k) session other e f

    by_now : (now : Option MachineOpen) → first.now ≡ now → LeastOf sessions (least_with least now) (least_prefix (least_with least now) sessions)
        → LeastOf (first ∷ sessions) least (least_prefix (least_with least now) sessions)
    by_now None is rest = record {
      is = later (least_prefix least sessions) rest.is;
      at_most = rest.at_most;
      below = λ k session current e f. none_first k session current e f;
    }
      where
        none_first : (k : ℕ) (session : Session) (current : MachineOpen) → slice_get (first ∷ sessions) k ≡ Some session → session.now ≡ Some current
            → least_prefix least sessions ≤ current.begun.prefix
        none_first zero session current e f =
            absurd (let g : None ≡ Some current = sym is ∙ (ap (λ (one : Session). one.now) (same_Some first session e) ∙ f) in cc)
        none_first (suc k) session current e f = rest.below k session current e f
    by_now (Some current) is rest = record {
      is = here_or_later current is (least_prefix (min current.begun.prefix least) sessions) rest.is;
      at_most = let most = rest.at_most in let right = min_right current.begun.prefix least in omega (arith, most, right);
      below = λ k session other e f. some_first k session other e f;
    }
      where
        some_first : (k : ℕ) (session : Session) (other : MachineOpen) → slice_get (first ∷ sessions) k ≡ Some session → session.now ≡ Some other
            → least_prefix (min current.begun.prefix least) sessions ≤ other.begun.prefix
        some_first zero session other e f =
            let one : current.begun.prefix ≡ other.begun.prefix =
            ap (λ (c : MachineOpen). c.begun.prefix) (same_Some current other (sym is ∙ (ap (λ (one : Session). one.now) (same_Some first session e) ∙ f))) in
            let most = rest.at_most in
            let left = min_left current.begun.prefix least in
            omega (arith, one, most, left)
        some_first (suc k) session other e f = rest.below k session other e f

module _ (setting : Setting) (state : State) (core : CoreData) (sessions : List SessionData) (number : ℕ) (session : SessionData)
    (at : Beginning setting state core sessions number session)
    (fits : Fits setting state) (starts : Starts state) (shows : SessionsShow setting state core sessions) where
  abbrev after : State
  after = begun_state setting state number

  abbrev cover_then : Cover
  cover_then = (beginning core).cover

  -- ---- which entries are below the watermark

  entries_long : length core.entries ≡ length state.order
  entries_long = at.core_shows.entries_show.count

  -- none stands behind the last
  none_behind : {A : Type 0} (rank : ℕ) (entry : Entry) → slice_get core.entries rank ≡ Some entry → length core.entries ≤ rank → A
  none_behind rank entry e more = let within = slice_get_within core.entries rank entry e in absurd (omega (arith, within, more))

  least : LeastOf state.sessions (length state.order) (least_prefix (length state.order) state.sessions)
  least = least_of state.sessions (length state.order)

  -- an open transaction of the machine is one of the engine
  late_by : (bound : ℕ) → ((start : ℕ) → Contains core.active start → bound ≤ start) → (found : ℕ)
      → LeastIs state.sessions (length state.order) found
      → (rank : ℕ) (entry : Entry) → slice_get core.entries rank ≡ Some entry → found ≤ rank → bound ≤ entry.time
  late_by bound first found the_number rank entry e more = none_behind rank entry e (let long = entries_long in omega (arith, long, more))
  late_by bound first found (of_one k one current got now_is) rank entry e more =
      let there : (session_at state k).now ≡ Some current =
      ap (λ (s : Session). s.now) (same_at k one got) ∙ now_is in
      let is = opened setting state core sessions k current fits shows there in
      let show = open_shown setting state core sessions k is.session is.now current shows is.is_open in
      let same = show.open_shows.prefix in
      let late = show.prefix_counts.late rank entry e (omega (arith, same, more)) in
      let least_start = first is.now.start (at.core_shows.active_is.has k is.session is.now current is.is_open) in
      omega (arith, late, least_start)
    where
      same_at : (k : ℕ) (one : Session) → slice_get state.sessions k ≡ Some one → session_at state k ≡ one
      same_at k one got = get_or_from_slice_get state.sessions k one fresh got

  early_by : (start : ℕ) → Contains core.active start → (rank : ℕ) (entry : Entry) → slice_get core.entries rank ≡ Some entry
      → rank < least_prefix (length state.order) state.sessions → entry.time < start
  early_by start c rank entry e less =
      let is = at.core_shows.active_is.only start c in
      let show = open_shown setting state core sessions is.number is.session is.now is.current shows is.is_open in
      let same = show.open_shows.prefix in
      let below = least.below is.number (session_at state is.number) is.current (is_there state is.number is.current is.is_open.open_there) is.is_open.open_there in
      let early = show.prefix_counts.early rank entry e (omega (arith, same, below, less)) in
      let start_is = is.start_is in
      omega (arith, early, start_is)

  counts_by : (active : List ℕ) → core.active ≡ active → Rise active
      → CountsBelow core.entries (least_prefix (length state.order) state.sessions) (watermark_of (record { starts = active ++ core.next ∷ []; next = suc core.next }))
  counts_by [] is rises = record {
    early = λ rank entry e less. at.core_shows.times_apart.times rank entry e;
    late = λ rank entry e more. late_by core.next
        (λ start c. absurd (let d = subst (λ (xs : List ℕ). Contains xs start) is c in omega (arith, d.1)))
        (least_prefix (length state.order) state.sessions) least.is rank entry e more;
  }
  counts_by (first ∷ rest) is rises = record {
    early = λ rank entry e less. early_by first (subst (λ (xs : List ℕ). Contains xs first) (sym is) (first_of first rest)) rank entry e less;
    late = λ rank entry e more. late_by first
        (λ start c. least_here start (here_or first start rest (subst (λ (xs : List ℕ). Contains xs start) is c)))
        (least_prefix (length state.order) state.sessions) least.is rank entry e more;
  }
    where
      all_at : (xs : List ℕ) (start : ℕ) → AllByRecursion (λ later. first < later) xs → Contains xs start → first < start
      all_at [] start all c = absurd (omega (arith, c.1))
      all_at (x ∷ xs) start all c = elim (here_or x start xs c) [
        | inl same ↦ let less = all.0 in omega (arith, less, same)
        | inr later ↦ all_at xs start all.1 later
      ]

      least_here : (start : ℕ) → (first ≡ start) ⊎ Contains rest start → first ≤ start
      least_here start (inl same) = omega (arith, same)
      least_here start (inr later) = let less = all_at rest start rises.0 later in omega (arith, less)

  below_by : (active : List ℕ) → core.active ≡ active → watermark_of (record { starts = active ++ core.next ∷ []; next = suc core.next }) ≤ core.next
  below_by [] is = omega arith
  below_by (first ∷ rest) is =
      let found = at.core_shows.active_is.only first (subst (λ (xs : List ℕ). Contains xs first) (sym is) (first_of first rest)) in
      let less = at.core_shows.times_apart.starts found.number found.session found.now found.current found.is_open in
      let same = found.start_is in
      omega (arith, less, same)

  -- ---- the one that begins

  abbrev visited_in : Phase → ℕ
  visited_in (phase.Working visited count) = visited
  visited_in (phase.Stamping visited) = visited
  visited_in (phase.Undoing visited cause) = visited

  begun_shows : OpenShows setting after (core_begun core) number (beginning core) (begun_there setting state)
  begun_shows = record {
    prefix_counts = record {
      early = λ rank entry e less. at.core_shows.times_apart.times rank entry e;
      late = λ rank entry e more. none_behind rank entry e more;
    };
    low_counts = counts_by core.active refl at.core_shows.active_is.rises;
    cover_holds = record {
      below = below_by core.active refl;
      held = record { past = omega arith; safe = λ start c. inl c };
    };
    open_shows = record { prefix = entries_long; replies = refl; records = refl; took = refl; phase = refl };
    notes_show = λ unmarked. record {
      all = record {
        each = λ table pos. sym (ap (λ own. noted (pair_of (item_at (snapshot setting state (length state.order)) table pos) own)) (nothing_own setting table pos));
        ascends = tt;
      };
      saved = tt;
    };
    gathered_shows = λ visited count e.
        subst (λ (n : ℕ). GatheredBy setting (view setting after (begun_there setting state).begun) n []
        (statement_at (txn_at setting number (session_at after number)) 0)) (ap visited_in e)
        (gathered_first setting (view setting after (begun_there setting state).begun) (statement_at (txn_at setting number (session_at after number)) 0));
  }

  -- ---- the others

  done_same : (other : ℕ) → (session_at state other).done ≡ (session_at after other).done
  done_same other = elim (cases_eq other number) [
    | inl e ↦
        ap (λ (n : ℕ). (session_at state n).done) e
        ∙ (sym (ap (λ (one : Session). one.done) (begins_there setting state number at.within))
        ∙ ap (λ (n : ℕ). (session_at after n).done) (sym e))
    | inr apart ↦ sym (ap (λ (one : Session). one.done) (others_there setting state number other apart))
  ]

  held_still : (cover : Cover) → IsHeld core cover → IsHeld (core_begun core) cover
  held_still cover held = record {
    past = let past = held.past in omega (arith, past);
    safe = λ start c. elim (Contains-push_cases core.active core.next start c) [
      | inl old ↦ held.safe start old
      | inr new ↦ inr (let past = held.past in omega (arith, past, new))
    ];
  }

  open_stays : (other : ℕ) (its : Open) (present : MachineOpen) → OpenShows setting state core other its present → OpenShows setting after (core_begun core) other its present
  open_stays other its present show = record {
    prefix_counts = show.prefix_counts;
    low_counts = show.low_counts;
    cover_holds = record { below = show.cover_holds.below; held = held_still its.cover show.cover_holds.held };
    open_shows = show.open_shows;
    notes_show = λ unmarked. let notes = show.notes_show unmarked in record { all = notes.all; saved = notes.saved };
    gathered_shows = λ visited count e.
        subst (λ (done : List Finished). GatheredBy setting (view setting state present.begun) visited its.gathered
        (statement_at (slice_get (program_of setting other) (length done)) (length its.replies))) (done_same other) (show.gathered_shows visited count e);
  }

  now_stays : (other : ℕ) (here : Option Open) (there : Option MachineOpen) → NowShows setting state core other here there
      → NowShows setting after (core_begun core) other here there
  now_stays other None None show = tt
  now_stays other None (Some present) show = show
  now_stays other (Some its) None show = show
  now_stays other (Some its) (Some present) show = open_stays other its present show

  other_stays : (other : ℕ) (another : SessionData) → (other ≡ number → ⊥) → SessionShows setting state core other another
      → SessionShows setting after (core_begun core) other another
  other_stays other another apart show = record {
    session_is = show.session_is;
    done_shows = show.done_shows ∙ ap (outcomes_from setting other 0) (done_same other);
    now_shows = now_stays other another.now (session_at after other).now
        (subst (λ (one : Session). NowShows setting state core other another.now one.now) (sym (others_there setting state number other apart)) show.now_shows);
  }

  one_shows : SessionShows setting after (core_begun core) number (went_on session (beginning core))
  one_shows =
      let was = shows.each number session at.found in
      record {
        session_is = record {
          number_is = was.session_is.number_is;
          program = was.session_is.program;
          shapes = was.session_is.shapes;
          chunks = was.session_is.chunks;
          rows = was.session_is.rows;
        };
        done_shows = was.done_shows ∙ ap (outcomes_from setting number 0) (done_same number);
        now_shows = subst (λ (one : Session). NowShows setting after (core_begun core) number (Some (beginning core)) one.now)
            (sym (begins_there setting state number at.within)) begun_shows;
      }

  pub sessions_begun_show : SessionsShow setting after (core_begun core) (sessions_on sessions number session (beginning core))
  sessions_begun_show = record {
    count = set_length sessions number (went_on session (beginning core)) ∙ shows.count;
    each = λ other another found. elim (cases_eq other number) [
      | inl e ↦
          let here : slice_get (set sessions number (went_on session (beginning core))) number ≡ Some another =
          sym (ap (slice_get (set sessions number (went_on session (beginning core)))) e) ∙ found in
          let one : went_on session (beginning core) ≡ another =
          same_Some (went_on session (beginning core)) another (sym (got_set sessions number session (went_on session (beginning core)) at.found) ∙ here) in
          subst (λ (n : ℕ). SessionShows setting after (core_begun core) n another) (sym e)
          (subst (λ (s : SessionData). SessionShows setting after (core_begun core) number s) one one_shows)
      | inr apart ↦
          other_stays other another apart
          (shows.each other another (sym (got_other sessions number other (went_on session (beginning core)) apart) ∙ found))
    ];
  }
