-- Runs: lists of steps, the items of a schedule, and the rounds after it.
use Rattle.std.specs.Prelude.{◌≡◌, ℕ, zero, suc, ◌<◌, List, [], ◌∷◌, length, None, Bool, true, false, ◌&&◌, if◌then◌else◌, map}
use Rattle.hy_bound.specs.declared.schedule.Item.{Item}
use Rattle.hy_machine.specs.declared.Setting.{Setting}
use Rattle.hy_machine.specs.States.{State, Session}
use Rattle.hy_protocol.specs.declared.Progress.{Progress}
use Rattle.hy_protocol.specs.declared.Progress.TheVariants.{Blocked, Moved, Answered, Ended}
use Rattle.hy_machine.specs.Sessions.{fresh, session_at, has_ended}
use Rattle.hy_machine.specs.Measures.{steps_left, measure_of}
use Rattle.hy_machine.specs.Steps.{step_of}

-- nothing has happened
abbrev pub opening_of : Setting → State
opening_of setting = record { order = []; mark = None; sessions = map (λ txns. fresh) setting.programs }

-- the state after steps of these sessions, one after another
abbrev pub after_steps : Setting → State → List ℕ → State
after_steps setting state [] = state
after_steps setting state (number ∷ numbers) = after_steps setting (step_of setting state number).0 numbers

-- a state that the machine comes to from its opening
abbrev pub IsReached : Setting → State → Type 0
IsReached setting state = (numbers : List ℕ) × (state ≡ after_steps setting (opening_of setting) numbers)

abbrev pub is_moved : Progress → Bool
is_moved (Blocked by) = false
is_moved Moved = true
is_moved Answered = false
is_moved Ended = false

-- a session's steps until it answers, is blocked or has ended, but no more than so many
unfoldable pub moves : ℕ → Setting → State → ℕ → State
moves zero setting state number = state
moves (suc most) setting state number =
    if is_moved (step_of setting state number).1
    then moves most setting (step_of setting state number).0 number
    else (step_of setting state number).0

-- a session's steps until it answers, is blocked or has ended: it has no more than these left
abbrev pub whole_of : Setting → State → ℕ → State
whole_of setting state number = moves (steps_left setting number (session_at state number)) setting state number

-- an item of a schedule
abbrev pub item_of : Setting → State → Item → State
item_of setting state item =
    if item.whole then whole_of setting state item.session else (step_of setting state item.session).0

-- the items of a schedule, one after another
abbrev pub items_of : Setting → State → List Item → State
items_of setting state [] = state
items_of setting state (item ∷ items) = items_of setting (item_of setting state item) items

-- each session, in order, as far as it answers: so many are left, the first of them having this number
abbrev pub round_from : Setting → State → ℕ → ℕ → State
round_from setting state number zero = state
round_from setting state number (suc left) = round_from setting (whole_of setting state number) (suc number) left

-- a round of all sessions
abbrev pub round_of : Setting → State → State
round_of setting state = round_from setting state 0 (length state.sessions)

-- whether every session has ended, the first of these having this number
abbrev pub all_ended_from : Setting → ℕ → List Session → Bool
all_ended_from setting number [] = true
all_ended_from setting number (session ∷ sessions) = has_ended setting number session && all_ended_from setting (suc number) sessions

-- rounds until every session has ended, but no more than so many
unfoldable pub repeated : ℕ → Setting → State → State
repeated zero setting state = state
repeated (suc most) setting state =
    if all_ended_from setting 0 state.sessions then state else repeated most setting (round_of setting state)

-- rounds until every session has ended: there are no more of them than steps are left
abbrev pub rounds_of : Setting → State → State
rounds_of setting state = repeated (measure_of setting state) setting state

-- a run: the schedule, and then the rounds
abbrev pub run_of : Setting → List Item → State
run_of setting items = rounds_of setting (items_of setting (opening_of setting) items)

-- a run is a list of steps
abbrev pub RunsAreSteps : Type 0
RunsAreSteps = (setting : Setting) (items : List Item) → IsReached setting (run_of setting items)

-- a step that goes on brings its session nearer to its end, and leaves what the others have left
abbrev pub StepsFall : Type 0
StepsFall = (setting : Setting) (state : State) (number : ℕ) → is_moved (step_of setting state number).1 ≡ true
    → steps_left setting number (session_at (step_of setting state number).0 number) < steps_left setting number (session_at state number)

-- every session has ended after a run
abbrev pub RunsEnd : Type 0
RunsEnd = (setting : Setting) (items : List Item) → all_ended_from setting 0 (run_of setting items).sessions ≡ true
