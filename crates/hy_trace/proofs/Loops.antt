-- The loops that trace a run, turn by turn.
use Rattle.std.proofs.Common.{◌≡◌, ℕ, zero, suc, ◌+◌, ◌-◌, ◌<◌, ◌≤◌, List, [], ◌∷◌, ◌++◌, length, drop, get_or, Bool, true, false, cond}
use Rattle.std.proofs.Common.{Option, None, Some, Result, Ok, Err, refl, ap, sym, ◌∙◌, subst, arith, add-one, drop-cons}
use Rattle.std.specs.Prelude.{OnOk, is_none}
use Rattle.std.proofs.lemmas.List.{drop_all}
use Rattle.hy_bound.specs.declared.schedule.Item.{Item}
use Rattle.hy_protocol.specs.declared.Progress.{Progress}
use Rattle.hy_render.specs.declared.Names.{Names}
use Rattle.hy_machine.specs.declared.Setting.{Setting}
use Rattle.hy_machine.specs.States.{State}
use Rattle.hy_machine.specs.Sessions.{session_at, txn_at}
use Rattle.hy_machine.specs.Steps.{step_of}
use Rattle.hy_machine.specs.Runs.{StepsFall, RunsEnd, opening_of, after_steps, is_moved, whole_of, item_of, items_of, round_of, all_ended_from}
use Rattle.hy_lawful.specs.Kept.{ReachedAreKept}
use Rattle.hy_stepping.specs.Bounds.{BoundsAreEnough, most_turns}
use Rattle.hy_stepping.specs.Outcomes.{EndsAreTheMachines, are_done}
use Rattle.hy_stepping.specs.Standing.{SessionsStand}
use Rattle.hy_world.specs.Worlds.{WorldData, ShowsState, parts_of}
use Rattle.hy_trace.specs.Steps.{moves_taken, whole_taken, item_taken, items_taken, sessions_taken, round_taken, repeated_taken, rounds_taken, all_taken}
use Rattle.hy_trace.specs.Steps.{run_taken}
use Rattle.hy_trace.specs.Trace.{lines_from}
use Rattle.hy_trace.specs.Traced.{Lines, Writes, WritesStep, is_over_in}
use Rattle.hy_trace.proofs.Taken.{whole_leads, item_leads, items_lead, round_leads}
use Rattle.hy_trace.proofs.Lasting.{ended_takes_none, one_more, one_last, no_more, whole_lasts, round_more, no_rounds, none_repeated, all_rounds_last}
use Rattle.hy_trace.proofs.Shown.{kept_in, over_shown}
use Rattle.hy_trace.proofs.Ahead.{Taking, Ahead, all_ahead, goes_on, all_done, one_written, then_written}

-- ---- a session's steps

abbrev pub whole : ℕ → Taking
whole number setting state = whole_taken setting state number

-- so many turns being done
abbrev pub whole_left : ℕ → ℕ → Taking
whole_left turn number setting state = moves_taken (most_turns - turn) setting state number

abbrev one_step : ℕ → Taking
one_step number setting state = number ∷ []

abbrev nothing : Taking
nothing setting state = []

pub whole_ahead : StepsFall → BoundsAreEnough → (names : Names) (number : ℕ) (now : WorldData) (lines : Lines)
    → Ahead names (whole_left 0 number) (whole number) now now lines lines
whole_ahead falls enough names number now lines =
    all_ahead names (whole_left 0 number) (whole number) now lines
    (λ setting state shows. first setting state ∙ whole_lasts falls enough setting state number shows.shown.runnable shows.shown.reached)
  where
    first : (setting : Setting) (state : State) → moves_taken (most_turns - 0) setting state number ≡ moves_taken most_turns setting state number
    first setting state =
        let same : most_turns - 0 ≡ most_turns = omega arith in
        ap (λ (n : ℕ). moves_taken n setting state number) same

-- the session is at the end of its script
is_at_none : (setting : Setting) (state : State) (number : ℕ) → is_none (txn_at setting number (session_at state number)) ≡ true
    → txn_at setting number (session_at state number) ≡ None
is_at_none setting state number t = by (txn_at setting number (session_at state number)) t
  where
    by : {A : Type 0} (x : Option A) → is_none x ≡ true → x ≡ None
    by None t = refl
    by (Some x) t = absurd (cc t)

pub whole_ended : SessionsStand → ReachedAreKept → (names : Names) (number turn : ℕ) (from now : WorldData) (before after : Lines)
    → is_over_in now number ≡ true → Ahead names (whole_left turn number) (whole number) from now before after
    → Writes names (whole number) from now before after
whole_ended stand kept names number turn from now before after over ahead =
    all_done names (whole_left turn number) (whole number) from now before after ahead
    (λ setting state shows. ended_takes_none (most_turns - turn) setting state number
    (is_at_none setting state number (sym (over_shown stand kept setting state now number shows) ∙ over)))

-- it takes a step, and goes on
pub whole_goes_on : SessionsStand → ReachedAreKept → (names : Names) (number turn : ℕ) (stepped : Progress) (from now next : WorldData)
    (before mid after : Lines) → turn < most_turns → is_over_in now number ≡ false → is_moved stepped ≡ true
    → Ahead names (whole_left turn number) (whole number) from now before mid → WritesStep names number stepped now next mid after
    → Ahead names (whole_left (turn + 1) number) (whole number) from next before after
whole_goes_on stand kept names number turn stepped from now next before mid after l over moved ahead writes =
    goes_on names (whole_left turn number) (one_step number) (whole_left (turn + 1) number) (whole number) from now next before mid after ahead
    (one_written names number stepped now next mid after writes)
    (λ setting state shows.
    let left : most_turns - turn ≡ suc (most_turns - (turn + 1)) = omega (arith, l) in
    ap (λ (n : ℕ). moves_taken n setting state number) left
    ∙ one_more (most_turns - (turn + 1)) setting state number (sym (over_shown stand kept setting state now number shows) ∙ over)
    (ap is_moved (writes setting state shows).answer ∙ moved))

-- or doesn't
pub whole_stops : SessionsStand → ReachedAreKept → (names : Names) (number turn : ℕ) (stepped : Progress) (from now next : WorldData)
    (before mid after : Lines) → turn < most_turns → is_over_in now number ≡ false → is_moved stepped ≡ false
    → Ahead names (whole_left turn number) (whole number) from now before mid → WritesStep names number stepped now next mid after
    → Writes names (whole number) from next before after
whole_stops stand kept names number turn stepped from now next before mid after l over stays ahead writes =
    all_done names nothing (whole number) from next before after
    (goes_on names (whole_left turn number) (one_step number) nothing (whole number) from now next before mid after ahead
    (one_written names number stepped now next mid after writes)
    (λ setting state shows.
    let left : most_turns - turn ≡ suc (most_turns - (turn + 1)) = omega (arith, l) in
    ap (λ (n : ℕ). moves_taken n setting state number) left
    ∙ one_last (most_turns - (turn + 1)) setting state number (sym (over_shown stand kept setting state now number shows) ∙ over)
    (ap is_moved (writes setting state shows).answer ∙ stays)))
    (λ setting state shows. refl)

pub whole_over : (names : Names) (number turn : ℕ) (from now : WorldData) (before after : Lines) → most_turns ≤ turn
    → Ahead names (whole_left turn number) (whole number) from now before after → Writes names (whole number) from now before after
whole_over names number turn from now before after l ahead =
    all_done names (whole_left turn number) (whole number) from now before after ahead
    (λ setting state shows.
    let none : most_turns - turn ≡ 0 = omega (arith, l) in
    no_more (most_turns - turn) setting state number none)

-- ---- the items of a schedule

abbrev pub an_item : Item → Taking
an_item item setting state = item_taken setting state item

abbrev pub all_items : List Item → Taking
all_items items setting state = items_taken setting state items

pub whole_item : (names : Names) (item : Item) (old new : WorldData) (before after : Lines) → item.whole ≡ true
    → Writes names (whole item.session) old new before after → Writes names (an_item item) old new before after
whole_item names item old new before after t writes =
    subst (λ (b : Bool). Writes names (λ setting state. cond b (whole_taken setting state item.session) (item.session ∷ [])) old new before after)
    (sym t) writes

pub single_item : (names : Names) (item : Item) (stepped : Progress) (old new : WorldData) (before after : Lines) → item.whole ≡ false
    → WritesStep names item.session stepped old new before after → Writes names (an_item item) old new before after
single_item names item stepped old new before after f writes =
    subst (λ (b : Bool). Writes names (λ setting state. cond b (whole_taken setting state item.session) (item.session ∷ [])) old new before after)
    (sym f) (one_written names item.session stepped old new before after writes)

pub items_ahead : (names : Names) (items : List Item) (now : WorldData) (lines : Lines)
    → Ahead names (all_items (drop 0 items)) (all_items items) now now lines lines
items_ahead names items now lines = all_ahead names (all_items (drop 0 items)) (all_items items) now lines (λ setting state shows. refl)

pub items_go_on : (names : Names) (items : List Item) (i : ℕ) (other : Item) (from now next : WorldData) (before mid after : Lines) → i < length items
    → Ahead names (all_items (drop i items)) (all_items items) from now before mid
    → Writes names (an_item (get_or items i other)) now next mid after
    → Ahead names (all_items (drop (i + 1) items)) (all_items items) from next before after
items_go_on names items i other from now next before mid after l ahead writes =
    let item : Item = get_or items i other in
    let behind : List Item = drop (i + 1) items in
    let rest : drop i items ≡ item ∷ behind = rw (add-one, drop-cons items i other) refl in
    goes_on names (all_items (drop i items)) (an_item item) (all_items behind) (all_items items) from now next before mid after ahead writes
    (λ setting state shows.
    ap (items_taken setting state) rest
    ∙ ap (λ (last : State). item_taken setting state item ++ items_taken setting last behind) (sym (item_leads setting state item)))

pub items_over : (names : Names) (items : List Item) (i : ℕ) (from now : WorldData) (before after : Lines) → length items ≤ i
    → Ahead names (all_items (drop i items)) (all_items items) from now before after → Writes names (all_items items) from now before after
items_over names items i from now before after l ahead =
    all_done names (all_items (drop i items)) (all_items items) from now before after ahead
    (λ setting state shows. ap (items_taken setting state) (drop_all i items l))

-- ---- a round

abbrev pub a_round : Taking
a_round setting state = round_taken setting state

-- the sessions from this number on are left
abbrev pub round_left : ℕ → ℕ → Taking
round_left count number setting state = sessions_taken setting state number (count - number)

pub round_ahead : ReachedAreKept → (names : Names) (count : ℕ) (now : WorldData) (lines : Lines) → count ≡ length now.sessions
    → Ahead names (round_left count 0) a_round now now lines lines
round_ahead kept names count now lines counted =
    all_ahead names (round_left count 0) a_round now lines
    (λ setting state shows.
    let here = shows.shown.shows.sessions_show.count in
    let there = (kept_in kept setting state now shows).fits.count in
    let same : count - 0 ≡ length state.sessions = omega (arith, counted, here, there) in
    ap (sessions_taken setting state 0) same)

pub round_goes_on : (names : Names) (count number : ℕ) (from now next : WorldData) (before mid after : Lines) → number < count
    → Ahead names (round_left count number) a_round from now before mid → Writes names (whole number) now next mid after
    → Ahead names (round_left count (number + 1)) a_round from next before after
round_goes_on names count number from now next before mid after l ahead writes =
    goes_on names (round_left count number) (whole number) (round_left count (number + 1)) a_round from now next before mid after ahead writes
    (λ setting state shows.
    let left : count - number ≡ suc (count - (number + 1)) = omega (arith, l) in
    let more : number + 1 ≡ suc number = omega arith in
    ap (sessions_taken setting state number) left
    ∙ (ap (λ (n : ℕ). whole_taken setting state number ++ sessions_taken setting (whole_of setting state number) n (count - (number + 1))) (sym more)
    ∙ ap (λ (last : State). whole_taken setting state number ++ sessions_taken setting last (number + 1) (count - (number + 1)))
    (sym (whole_leads setting state number))))

pub round_over : (names : Names) (count number : ℕ) (from now : WorldData) (before after : Lines) → count ≤ number
    → Ahead names (round_left count number) a_round from now before after → Writes names a_round from now before after
round_over names count number from now before after l ahead =
    all_done names (round_left count number) a_round from now before after ahead
    (λ setting state shows.
    let none : count - number ≡ 0 = omega (arith, l) in
    ap (sessions_taken setting state number) none)

-- ---- rounds

abbrev pub all_rounds : Taking
all_rounds setting state = rounds_taken setting state

abbrev pub rounds_left : ℕ → Taking
rounds_left round setting state = repeated_taken (most_turns - round) setting state

pub rounds_ahead : RunsEnd → BoundsAreEnough → (names : Names) (now : WorldData) (lines : Lines)
    → Ahead names (rounds_left 0) all_rounds now now lines lines
rounds_ahead ends enough names now lines =
    all_ahead names (rounds_left 0) all_rounds now lines
    (λ setting state shows. first setting state ∙ all_rounds_last ends enough setting state shows.shown.runnable shows.shown.reached)
  where
    first : (setting : Setting) (state : State) → repeated_taken (most_turns - 0) setting state ≡ repeated_taken most_turns setting state
    first setting state =
        let same : most_turns - 0 ≡ most_turns = omega arith in
        ap (λ (n : ℕ). repeated_taken n setting state) same

ended_as : EndsAreTheMachines → (setting : Setting) (state : State) (world : WorldData) (b : Bool) → ShowsState setting state world
    → are_done world.sessions ≡ b → all_ended_from setting 0 state.sessions ≡ b
ended_as ends setting state world b shows e = sym (ends setting state (parts_of world.chunks world.core) world.sessions shows.shown) ∙ e

pub rounds_go_on : EndsAreTheMachines → (names : Names) (round : ℕ) (from now next : WorldData) (before mid after : Lines) → round < most_turns
    → are_done now.sessions ≡ false → Ahead names (rounds_left round) all_rounds from now before mid → Writes names a_round now next mid after
    → Ahead names (rounds_left (round + 1)) all_rounds from next before after
rounds_go_on ends names round from now next before mid after l f ahead writes =
    goes_on names (rounds_left round) a_round (rounds_left (round + 1)) all_rounds from now next before mid after ahead writes
    (λ setting state shows.
    let left : most_turns - round ≡ suc (most_turns - (round + 1)) = omega (arith, l) in
    ap (λ (n : ℕ). repeated_taken n setting state) left
    ∙ (round_more (most_turns - (round + 1)) setting state (ended_as ends setting state now false shows f)
    ∙ ap (λ (last : State). round_taken setting state ++ repeated_taken (most_turns - (round + 1)) setting last) (sym (round_leads setting state))))

pub rounds_stop : EndsAreTheMachines → (names : Names) (round : ℕ) (from now : WorldData) (before after : Lines) → are_done now.sessions ≡ true
    → Ahead names (rounds_left round) all_rounds from now before after → Writes names all_rounds from now before after
rounds_stop ends names round from now before after t ahead =
    all_done names (rounds_left round) all_rounds from now before after ahead
    (λ setting state shows. no_rounds (most_turns - round) setting state (ended_as ends setting state now true shows t))

pub rounds_over : (names : Names) (round : ℕ) (from now : WorldData) (before after : Lines) → most_turns ≤ round
    → Ahead names (rounds_left round) all_rounds from now before after → Writes names all_rounds from now before after
rounds_over names round from now before after l ahead =
    all_done names (rounds_left round) all_rounds from now before after ahead
    (λ setting state shows.
    let none : most_turns - round ≡ 0 = omega (arith, l) in
    none_repeated (most_turns - round) setting state none)

-- ---- a run

-- from the opening: the schedule, and then the rounds
pub run_written : (names : Names) (setting : Setting) (items : List Item) (from now next : WorldData) (mid after : Lines)
    → ShowsState setting (opening_of setting) from → Writes names (all_items items) from now (0, []) mid → Writes names all_rounds now next mid after
    → after.1 ≡ lines_from names setting 0 (opening_of setting) (run_taken setting items)
run_written names setting items from now next mid after shows first second =
    (then_written names (all_items items) all_rounds (λ setting state. all_taken items setting state) from now next (0, []) mid after first second
    (λ setting state. ap (λ (last : State). items_taken setting state items ++ rounds_taken setting last) (sym (items_lead setting state items)))
    setting (opening_of setting) shows).text

-- what a run without an error has written
on_ok : {T E : Type 0} (r : Result T E) (P Q : Type 0) → (P → Q) → OnOk r P → OnOk r Q
on_ok (Ok x) P Q f h = f h
on_ok (Err e) P Q f h = tt

pub run_on : {T E : Type 0} (r : Result T E) (names : Names) (items : List Item) (from now next : WorldData) (text : List ℕ) (mid after : Lines)
    → text ≡ [] → Writes names (all_items items) from now (0, text) mid → OnOk r (Writes names all_rounds now next mid after)
    → OnOk r ((setting : Setting) → ShowsState setting (opening_of setting) from
    → after.1 ≡ lines_from names setting 0 (opening_of setting) (run_taken setting items))
run_on r names items from now next text mid after none first second =
    on_ok r (Writes names all_rounds now next mid after) _
    (λ rounds. λ setting shows.
    run_written names setting items from now next mid after shows
    (subst (λ (start : List ℕ). Writes names (all_items items) from now (0, start) mid) none first) rounds)
    second
