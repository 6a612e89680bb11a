-- The commit order of the machine only grows: the entries so far come first in whatever a run comes to.
use Rattle.std.proofs.Common.{ℕ, zero, suc, List, [], ◌∷◌, Option, None, Some, Bool, true, false, cond, length, refl}
use Rattle.hy_bound.specs.declared.schedule.Item.{Item}
use Rattle.hy_machine.specs.Writes.{Write}
use Rattle.hy_machine.specs.declared.Setting.{Setting}
use Rattle.hy_machine.specs.States.{State, Open}
use Rattle.hy_protocol.specs.Turns.{Turn, Done, Waits, Begins, Visits, Answers, Saves, Enters, Ends}
use Rattle.hy_machine.specs.Turns.{turn}
use Rattle.hy_machine.specs.Sessions.{session_at, entry_of}
use Rattle.hy_machine.specs.Steps.{step_of, after_turn, order_with}
use Rattle.hy_machine.specs.Runs.{is_moved, moves, whole_of, item_of, items_of, round_from, round_of, all_ended_from, repeated, rounds_of}
use Rattle.hy_machine.specs.Measures.{steps_left, measure_of}
use Rattle.hy_world.specs.Logged.{Extend}
use Rattle.hy_world.proofs.Logs.{none_behind, extend_then}

-- the order of a state has the entries of another one first
abbrev Grows : State → State → Type 0
Grows state later = Extend state.order later.order

entry_grows : (setting : Setting) (state : State) (number : ℕ) (now : Option Open) → Extend state.order (order_with setting state number now)
entry_grows setting state number None = none_behind state.order
entry_grows setting state number (Some current) = record { others = entry_of setting state number current.begun ∷ []; behind = refl }

turn_grows : (setting : Setting) (state : State) (number : ℕ) (next : Turn Write) → Grows state (after_turn setting state number next).0
turn_grows setting state number Done = none_behind state.order
turn_grows setting state number (Waits by) = none_behind state.order
turn_grows setting state number Begins = none_behind state.order
turn_grows setting state number (Visits writes phase) = none_behind state.order
turn_grows setting state number (Answers writes reply took records) = none_behind state.order
turn_grows setting state number (Saves statement reply) = none_behind state.order
turn_grows setting state number Enters = entry_grows setting state number (session_at state number).now
turn_grows setting state number (Ends ending) = none_behind state.order

pub step_grows : (setting : Setting) (state : State) (number : ℕ) → Grows state (step_of setting state number).0
step_grows setting state number = turn_grows setting state number (turn setting state number)

chosen_grows : (state : State) (b : Bool) (one other : State) → Grows state one → Grows state other → Grows state (cond b one other)
chosen_grows state true one other h k = h
chosen_grows state false one other h k = k

-- first one part, then another
grows_then : (first second third : State) → Grows first second → Grows second third → Grows first third
grows_then first second third h k = extend_then first.order second.order third.order h k

pub moves_grow : (most : ℕ) (setting : Setting) (state : State) (number : ℕ) → Grows state (moves most setting state number)
unfolding moves
moves_grow zero setting state number = none_behind state.order
moves_grow (suc most) setting state number =
    let next : State = (step_of setting state number).0 in
    chosen_grows state (is_moved (step_of setting state number).1) (moves most setting next number) next
    (grows_then state next (moves most setting next number) (step_grows setting state number) (moves_grow most setting next number))
    (step_grows setting state number)

pub whole_grows : (setting : Setting) (state : State) (number : ℕ) → Grows state (whole_of setting state number)
whole_grows setting state number = moves_grow (steps_left setting number (session_at state number)) setting state number

pub item_grows : (setting : Setting) (state : State) (item : Item) → Grows state (item_of setting state item)
item_grows setting state item =
    chosen_grows state item.whole (whole_of setting state item.session) (step_of setting state item.session).0
    (whole_grows setting state item.session) (step_grows setting state item.session)

pub items_grow : (setting : Setting) (state : State) (items : List Item) → Grows state (items_of setting state items)
items_grow setting state [] = none_behind state.order
items_grow setting state (item ∷ items) =
    grows_then state (item_of setting state item) (items_of setting (item_of setting state item) items) (item_grows setting state item)
    (items_grow setting (item_of setting state item) items)

pub round_grows : (left : ℕ) (setting : Setting) (state : State) (number : ℕ) → Grows state (round_from setting state number left)
round_grows zero setting state number = none_behind state.order
round_grows (suc left) setting state number =
    let next : State = whole_of setting state number in
    grows_then state next (round_from setting next (suc number) left) (whole_grows setting state number) (round_grows left setting next (suc number))

pub repeated_grows : (most : ℕ) (setting : Setting) (state : State) → Grows state (repeated most setting state)
unfolding repeated
repeated_grows zero setting state = none_behind state.order
repeated_grows (suc most) setting state =
    let next : State = round_of setting state in
    chosen_grows state (all_ended_from setting 0 state.sessions) state (repeated most setting next) (none_behind state.order)
    (grows_then state next (repeated most setting next) (round_grows (length state.sessions) setting state 0) (repeated_grows most setting next))

pub rounds_grow : (setting : Setting) (state : State) → Grows state (rounds_of setting state)
rounds_grow setting state = repeated_grows (measure_of setting state) setting state
