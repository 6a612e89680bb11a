-- Which steps a run takes: the number of the session that takes each, in their order.
use Rattle.std.specs.Prelude.{◌≡◌, ℕ, zero, suc, List, [], ◌∷◌, ◌++◌, Bool, Option, None, Some, length, if◌then◌else◌}
use Rattle.hy_bound.specs.declared.schedule.Item.{Item}
use Rattle.hy_bound.specs.declared.Txn.{Txn}
use Rattle.hy_machine.specs.declared.Setting.{Setting}
use Rattle.hy_machine.specs.States.{State}
use Rattle.hy_machine.specs.Sessions.{session_at, txn_at}
use Rattle.hy_machine.specs.Measures.{steps_left, measure_of}
use Rattle.hy_machine.specs.Steps.{step_of}
use Rattle.hy_machine.specs.Runs.{opening_of, after_steps, is_moved, whole_of, item_of, items_of, round_of, all_ended_from, run_of}

-- a session's step, and the steps behind it, which are taken where it goes on
abbrev pub step_and : ℕ → Bool → List ℕ → List ℕ
step_and number goes_on behind = number ∷ (if goes_on then behind else [])

-- a session that is at the end of its script takes no step
abbrev pub unless_ended : Option Txn → List ℕ → List ℕ
unless_ended None steps = []
unless_ended (Some txn) steps = steps

-- a session's steps until it answers or is blocked, so many at most
unfoldable pub moves_taken : ℕ → Setting → State → ℕ → List ℕ
moves_taken zero setting state number = []
moves_taken (suc most) setting state number =
    unless_ended (txn_at setting number (session_at state number))
    (step_and number (is_moved (step_of setting state number).1) (moves_taken most setting (step_of setting state number).0 number))

-- all of them
abbrev pub whole_taken : Setting → State → ℕ → List ℕ
whole_taken setting state number = moves_taken (steps_left setting number (session_at state number)) setting state number

-- an item of a schedule: one that is not whole is one step, also where its session has ended
abbrev pub item_taken : Setting → State → Item → List ℕ
item_taken setting state item = if item.whole then whole_taken setting state item.session else item.session ∷ []

-- the items of a schedule, one after another
abbrev pub items_taken : Setting → State → List Item → List ℕ
items_taken setting state [] = []
items_taken setting state (item ∷ items) = item_taken setting state item ++ items_taken setting (item_of setting state item) items

-- each session, in order, as far as it answers: so many are left, the first of them having this number
abbrev pub sessions_taken : Setting → State → ℕ → ℕ → List ℕ
sessions_taken setting state number zero = []
sessions_taken setting state number (suc left) =
    whole_taken setting state number ++ sessions_taken setting (whole_of setting state number) (suc number) left

-- a round of all sessions
abbrev pub round_taken : Setting → State → List ℕ
round_taken setting state = sessions_taken setting state 0 (length state.sessions)

-- rounds until every session has ended, but no more than so many
unfoldable pub repeated_taken : ℕ → Setting → State → List ℕ
repeated_taken zero setting state = []
repeated_taken (suc most) setting state =
    if all_ended_from setting 0 state.sessions then [] else round_taken setting state ++ repeated_taken most setting (round_of setting state)

abbrev pub rounds_taken : Setting → State → List ℕ
rounds_taken setting state = repeated_taken (measure_of setting state) setting state

-- from a state on: the schedule, and then the rounds
abbrev pub all_taken : List Item → Setting → State → List ℕ
all_taken items setting state = items_taken setting state items ++ rounds_taken setting (items_of setting state items)

-- a run's steps
abbrev pub run_taken : Setting → List Item → List ℕ
run_taken setting items = all_taken items setting (opening_of setting)

-- a law: these steps lead where the run leads
abbrev pub TakenStepsAreTheRun : Type 0
TakenStepsAreTheRun =
    (setting : Setting) (items : List Item) → after_steps setting (opening_of setting) (run_taken setting items) ≡ run_of setting items
