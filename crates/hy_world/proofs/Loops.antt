-- The loops of a run, turn by turn: what is left of the machine's own after a turn.
use Rattle.std.proofs.Common.{◌≡◌, ℕ, zero, suc, ◌+◌, ◌-◌, ◌*◌, ◌<◌, ◌≤◌, List, ◌∷◌, length, drop, get_or, refl, ap, ◌∙◌, sym, subst, arith, add-one}
use Rattle.std.proofs.Common.{Bool, true, false, cond, drop-cons, inl, inr}
use Rattle.std.proofs.lemmas.Bool.{cases_Bool}
use Rattle.std.proofs.lemmas.List.{drop_all}
use Rattle.std.proofs.lemmas.Slice.Zip.{AllZip-long}
use Rattle.hy_bound.specs.Fits.{FitsRows}
use Rattle.hy_bound.specs.declared.schedule.Item.{Item}
use Rattle.hy_machine.specs.declared.Setting.{Setting}
use Rattle.hy_machine.specs.States.{State}
use Rattle.hy_protocol.specs.declared.Progress.{Progress}
use Rattle.hy_machine.specs.Steps.{step_of}
use Rattle.hy_machine.specs.Measures.{steps_left}
use Rattle.hy_machine.specs.Sessions.{session_at}
use Rattle.hy_machine.specs.Runs.{is_moved, whole_of, item_of, items_of, round_from, round_of, all_ended_from, repeated, rounds_of}
use Rattle.hy_lawful.specs.Kept.{ReachedAreKept}
use Rattle.hy_stepping.specs.Bounds.{BoundsAreEnough, WholesAreSteps, most_turns}
use Rattle.hy_stepping.specs.Outcomes.{EndsAreTheMachines, are_done}
use Rattle.hy_world.specs.Follows.{Follows, MovesOn, Steps}
use Rattle.hy_world.specs.Logged.{Extend, Approaches}
use Rattle.hy_world.specs.Worlds.{WorldData, ShowsState, parts_of}
use Rattle.hy_world.proofs.RunsLeft.{Ahead, all_ahead, goes_on, all_done, near_done, near_undone, breaks_early, breaks_off}
use Rattle.hy_world.proofs.Logs.{none_behind, extend_then}
use Rattle.hy_world.proofs.Orders.{step_grows, moves_grow, items_grow, round_grows, repeated_grows, rounds_grow}

-- ---- the steps of a whole statement

abbrev pub stepping : ℕ → Setting → State → State
stepping number setting state = (step_of setting state number).0

abbrev pub whole_steps : ℕ → Setting → State → State
whole_steps number setting state = whole_of setting state number

pub step_follows : (number : ℕ) (stepped : Progress) (now next : WorldData) → Steps number stepped now next → Follows (stepping number) now next
step_follows number stepped now next steps = λ setting state shows. (steps setting state shows).shows

-- a state is shown from which a session's steps lead to the end, and more turns are left than such steps
pub record IsOnWay (setting : Setting) (number turn : ℕ) (last : State) (now : WorldData) : Type 0 where
  pub state : State
  pub shows : ShowsState setting state now
  pub leads : whole_of setting state number ≡ last
  pub few : turn + steps_left setting number (session_at state number) < most_turns

-- of each state that was shown, so many turns being done
abbrev pub OnWay : ℕ → ℕ → WorldData → WorldData → Type 0
OnWay number turn from now = (setting : Setting) (state : State) → ShowsState setting state from → IsOnWay setting number turn (whole_of setting state number) now

pub whole_ahead : (number : ℕ) (now : WorldData) → BoundsAreEnough → OnWay number 0 now now
whole_ahead number now enough = λ setting state shows.
    let left = enough.steps setting state number shows.shown.runnable shows.shown.reached in
    record { state = state; shows = shows; leads = refl; few = omega (arith, left) }

pub whole_moves_on : (number turn : ℕ) (from now next : WorldData) → WholesAreSteps → OnWay number turn from now → MovesOn number now next
    → OnWay number turn from next
whole_moves_on number turn from now next are on_way moves = λ setting state shows.
    let here = on_way setting state shows in
    let there = moves setting here.state here.shows in
    let left = are.on setting number there.count here.state there.last there.moves in
    let few = here.few in
    let fewer = left.fewer in
    record { state = there.last; shows = there.shows; leads = left.whole ∙ here.leads; few = omega (arith, few, fewer) }

pub whole_goes_on : (number turn : ℕ) (stepped : Progress) (from now next : WorldData) → WholesAreSteps → is_moved stepped ≡ true
    → OnWay number turn from now → Steps number stepped now next → OnWay number (turn + 1) from next
whole_goes_on number turn stepped from now next are m on_way steps = λ setting state shows.
    let here = on_way setting state shows in
    let there = steps setting here.state here.shows in
    let after : State = (step_of setting here.state number).0 in
    let left = are.on setting number 1 here.state after (ap is_moved there.answer ∙ m, refl) in
    let few = here.few in
    let fewer = left.fewer in
    record { state = after; shows = there.shows; leads = left.whole ∙ here.leads; few = omega (arith, few, fewer) }

pub whole_stops : (number turn : ℕ) (stepped : Progress) (from now next : WorldData) → WholesAreSteps → is_moved stepped ≡ false
    → OnWay number turn from now → Steps number stepped now next → Follows (whole_steps number) from next
whole_stops number turn stepped from now next are m on_way steps = λ setting state shows.
    let here = on_way setting state shows in
    let there = steps setting here.state here.shows in
    subst (λ (last : State). ShowsState setting last next) (are.over setting here.state number (ap is_moved there.answer ∙ m) ∙ here.leads) there.shows

pub whole_over : (number turn : ℕ) (from now : WorldData) → most_turns ≤ turn → OnWay number turn from now → Follows (whole_steps number) from now
whole_over number turn from now l on_way = λ setting state shows.
    let few = (on_way setting state shows).few in
    absurd (omega (arith, few, l))

-- ---- the items of a schedule

abbrev pub an_item : Item → Setting → State → State
an_item item setting state = item_of setting state item

abbrev pub all_items : List Item → Setting → State → State
all_items items setting state = items_of setting state items

pub items_go_on : (items : List Item) (i : ℕ) (other : Item) (from now next : WorldData) → i < length items
    → Ahead (all_items (drop i items)) (all_items items) from now → Follows (an_item (get_or items i other)) now next
    → Ahead (all_items (drop (i + 1) items)) (all_items items) from next
items_go_on items i other from now next l ahead follows =
    let rest : drop i items ≡ get_or items i other ∷ drop (i + 1) items = rw (add-one, drop-cons items i other) refl in
    goes_on (all_items (drop i items)) (an_item (get_or items i other)) (all_items (drop (i + 1) items)) (all_items items) from now next ahead follows
    (λ setting state shows. sym (ap (items_of setting state) rest))

pub items_over : (items : List Item) (i : ℕ) (from now : WorldData) → length items ≤ i → Ahead (all_items (drop i items)) (all_items items) from now
    → Follows (all_items items) from now
items_over items i from now l ahead =
    all_done (all_items (drop i items)) (all_items items) from now ahead (λ setting state shows. ap (items_of setting state) (drop_all i items l))

-- ---- a round

abbrev pub a_round : Setting → State → State
a_round setting state = round_of setting state

-- the sessions from this number on are left
abbrev pub round_left : ℕ → ℕ → Setting → State → State
round_left count number setting state = round_from setting state number (count - number)

-- a world has as many sessions as the state
pub same_count : ReachedAreKept → (setting : Setting) (state : State) (world : WorldData) → ShowsState setting state world
    → length world.sessions ≡ length state.sessions
same_count are_kept setting state world shows =
    let first : length setting.first ≡ length setting.shapes =
    AllZip-long (FitsRows (setting.chunks * setting.rows)) setting.shapes setting.first shows.shown.runnable.fits.first_rows in
    shows.shown.shows.sessions_show.count ∙ sym (are_kept setting state first shows.shown.reached).fits.count

pub round_ahead : (now : WorldData) → ReachedAreKept → Ahead (round_left (length now.sessions) 0) a_round now now
round_ahead now are_kept = all_ahead (round_left (length now.sessions) 0) a_round now
    (λ setting state shows. first setting state (same_count are_kept setting state now shows))
  where
    first : (setting : Setting) (state : State) → length now.sessions ≡ length state.sessions
        → round_left (length now.sessions) 0 setting state ≡ round_of setting state
    first setting state e =
        let same : length now.sessions - 0 ≡ length state.sessions = omega arith in
        ap (round_from setting state 0) same

next_left : (count number : ℕ) (setting : Setting) (state : State) → number < count
    → round_left count (number + 1) setting (whole_of setting state number) ≡ round_left count number setting state
next_left count number setting state l =
    let left : count - number ≡ suc (count - (number + 1)) = omega arith in
    rw (left, add-one) refl

pub round_goes_on : (count number : ℕ) (from now next : WorldData) → number < count → Ahead (round_left count number) a_round from now
    → Follows (whole_steps number) now next → Ahead (round_left count (number + 1)) a_round from next
round_goes_on count number from now next l ahead follows =
    goes_on (round_left count number) (whole_steps number) (round_left count (number + 1)) a_round from now next ahead follows
    (λ setting state shows. next_left count number setting state l)

pub round_over : (count number : ℕ) (from now : WorldData) → count ≤ number → Ahead (round_left count number) a_round from now → Follows a_round from now
round_over count number from now l ahead =
    let none : count - number ≡ 0 = omega arith in
    all_done (round_left count number) a_round from now ahead (λ setting state shows. ap (round_from setting state number) none)

-- ---- rounds

abbrev pub all_rounds : Setting → State → State
all_rounds setting state = rounds_of setting state

abbrev pub rounds_left : ℕ → ℕ → Setting → State → State
rounds_left most round setting state = repeated (most - round) setting state

pub rounds_ahead : (now : WorldData) → BoundsAreEnough → Ahead (rounds_left most_turns 0) all_rounds now now
rounds_ahead now enough = all_ahead (rounds_left most_turns 0) all_rounds now
    (λ setting state shows. enough.rounds setting state shows.shown.runnable shows.shown.reached)

ended_as : EndsAreTheMachines → (setting : Setting) (state : State) (world : WorldData) (b : Bool) → ShowsState setting state world
    → are_done world.sessions ≡ b → all_ended_from setting 0 state.sessions ≡ b
ended_as ends setting state world b shows e = sym (ends setting state (parts_of world.chunks world.core) world.sessions shows.shown) ∙ e

round_more : (most round : ℕ) (setting : Setting) (state : State) → round < most → all_ended_from setting 0 state.sessions ≡ false
    → rounds_left most (round + 1) setting (round_of setting state) ≡ rounds_left most round setting state
unfolding repeated
round_more most round setting state l f =
    let left : most - round ≡ suc (most - (round + 1)) = omega arith in
    let choice : Bool → State = λ b. cond b state (repeated (most - (round + 1)) setting (round_of setting state)) in
    sym (ap (λ n. repeated n setting state) left ∙ ap choice f)

none_more : (left : ℕ) (setting : Setting) (state : State) → all_ended_from setting 0 state.sessions ≡ true → repeated left setting state ≡ state
unfolding repeated
none_more zero setting state t = refl
none_more (suc left) setting state t = rw t refl

no_rounds : (most round : ℕ) (setting : Setting) (state : State) → most ≤ round → rounds_left most round setting state ≡ state
unfolding repeated
no_rounds most round setting state l =
    let left : most - round ≡ 0 = omega arith in
    ap (λ n. repeated n setting state) left

pub rounds_go_on : EndsAreTheMachines → (most round : ℕ) (from now next : WorldData) → round < most → are_done now.sessions ≡ false
    → Ahead (rounds_left most round) all_rounds from now → Follows a_round now next → Ahead (rounds_left most (round + 1)) all_rounds from next
rounds_go_on ends most round from now next l f ahead follows =
    goes_on (rounds_left most round) a_round (rounds_left most (round + 1)) all_rounds from now next ahead follows
    (λ setting state shows. round_more most round setting state l (ended_as ends setting state now false shows f))

pub rounds_end : EndsAreTheMachines → (most round : ℕ) (from now : WorldData) → are_done now.sessions ≡ true
    → Ahead (rounds_left most round) all_rounds from now → Follows all_rounds from now
rounds_end ends most round from now t ahead =
    all_done (rounds_left most round) all_rounds from now ahead
    (λ setting state shows. none_more (most - round) setting state (ended_as ends setting state now true shows t))

pub rounds_over : (most round : ℕ) (from now : WorldData) → most ≤ round → Ahead (rounds_left most round) all_rounds from now → Follows all_rounds from now
rounds_over most round from now l ahead =
    all_done (rounds_left most round) all_rounds from now ahead (λ setting state shows. no_rounds most round setting state l)

-- ---- what breaks off

-- a step that is not done changes nothing
pub step_breaks_off : (number : ℕ) (now next : WorldData) → next ≡ now → Approaches (stepping number) now next
step_breaks_off number now next same =
    subst (λ (other : WorldData). Approaches (stepping number) now other) (sym same)
    (near_undone (stepping number) now (λ setting state. step_grows setting state number))

pub stepped_near : (number : ℕ) (stepped : Progress) (now next : WorldData) → Steps number stepped now next → Approaches (stepping number) now next
stepped_near number stepped now next steps = near_done (stepping number) now next (step_follows number stepped now next steps)

first_move : WholesAreSteps → (setting : Setting) (state : State) (number : ℕ)
    → Extend (step_of setting state number).0.order (whole_of setting state number).order
first_move are setting state number =
    let next : State = (step_of setting state number).0 in
    elim (cases_Bool (is_moved (step_of setting state number).1)) [
      | inl t ↦
          subst (λ (last : State). Extend next.order last.order) (are.on setting number 1 state next (t, refl)).whole
          (moves_grow (steps_left setting number (session_at next number)) setting next number)
      | inr f ↦ subst (λ (last : State). Extend next.order last.order) (are.over setting state number f) (none_behind next.order)
    ]

pub whole_breaks_off : (number turn : ℕ) (from now next : WorldData) → WholesAreSteps → OnWay number turn from now
    → Approaches (stepping number) now next → Approaches (whole_steps number) from next
whole_breaks_off number turn from now next are on_way near = λ setting state shows.
    let here = on_way setting state shows in
    let there = near setting here.state here.shows in
    let whole : State = whole_of setting here.state number in
    record {
      state = there.state;
      shows = there.shows;
      first = subst (λ (last : State). Extend there.state.order last.order) here.leads
          (extend_then there.state.order (step_of setting here.state number).0.order whole.order there.first (first_move are setting here.state number));
    }

pub items_break_off : (items : List Item) (i : ℕ) (other : Item) (from now next : WorldData) → i < length items
    → Ahead (all_items (drop i items)) (all_items items) from now → Approaches (an_item (get_or items i other)) now next
    → Approaches (all_items items) from next
items_break_off items i other from now next l ahead near =
    let item : Item = get_or items i other in
    let rest : drop i items ≡ item ∷ drop (i + 1) items = rw (add-one, drop-cons items i other) refl in
    breaks_off (all_items (drop i items)) (an_item item) (all_items items) from now next ahead near
    (λ setting state shows. subst (λ (all : List Item). Extend (item_of setting state item).order (items_of setting state all).order) (sym rest)
    (items_grow setting (item_of setting state item) (drop (i + 1) items)))

pub round_breaks_off : (count number : ℕ) (from now next : WorldData) → number < count → Ahead (round_left count number) a_round from now
    → Approaches (whole_steps number) now next → Approaches a_round from next
round_breaks_off count number from now next l ahead near =
    breaks_off (round_left count number) (whole_steps number) a_round from now next ahead near
    (λ setting state shows. subst (λ (last : State). Extend (whole_of setting state number).order last.order) (next_left count number setting state l)
    (round_grows (count - (number + 1)) setting (whole_of setting state number) (number + 1)))

pub rounds_break_off : EndsAreTheMachines → (most round : ℕ) (from now next : WorldData) → round < most → are_done now.sessions ≡ false
    → Ahead (rounds_left most round) all_rounds from now → Approaches a_round now next → Approaches all_rounds from next
rounds_break_off ends most round from now next l f ahead near =
    breaks_off (rounds_left most round) a_round all_rounds from now next ahead near
    (λ setting state shows. subst (λ (last : State). Extend (round_of setting state).order last.order)
    (round_more most round setting state l (ended_as ends setting state now false shows f))
    (repeated_grows (most - (round + 1)) setting (round_of setting state)))

pub schedule_breaks_off : (items : List Item) (from next : WorldData) → Approaches (all_items items) from next
    → Approaches (λ setting state. all_rounds setting (all_items items setting state)) from next
schedule_breaks_off items from next near = breaks_early (all_items items) all_rounds from next near rounds_grow
