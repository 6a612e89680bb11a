-- Runs are lists of steps.
use Rattle.std.proofs.Common.{◌≡◌, ℕ, List, [], ◌∷◌, ◌++◌, refl, ap, sym, ◌∙◌, zero, suc, inl, inr, length}
use Rattle.std.proofs.lemmas.Bool.{cases_Bool}
use Rattle.hy_bound.specs.declared.schedule.Item.{Item}
use Rattle.hy_machine.specs.declared.Setting.{Setting}
use Rattle.hy_machine.specs.States.{State}
use Rattle.hy_machine.specs.Steps.{step_of}
use Rattle.hy_machine.specs.Sessions.{session_at}
use Rattle.hy_machine.specs.Measures.{steps_left, measure_of}
use Rattle.hy_machine.specs.Runs.{opening_of, after_steps, is_moved, moves, whole_of, item_of, items_of, round_from, round_of, all_ended_from, repeated, run_of, RunsAreSteps}

-- a state that comes after some steps of another one
unfoldable pub IsAfter : Setting → State → State → Type 0
IsAfter setting from state = (numbers : List ℕ) × (state ≡ after_steps setting from numbers)

after_append : (setting : Setting) (state : State) (first second : List ℕ) → after_steps setting state (first ++ second) ≡ after_steps setting (after_steps setting state first) second
after_append setting state [] second = refl
after_append setting state (number ∷ first) second = after_append setting (step_of setting state number).0 first second

no_steps : (setting : Setting) (state : State) → IsAfter setting state state
unfolding IsAfter
no_steps setting state = ([], refl)

one_step : (setting : Setting) (state : State) (number : ℕ) → IsAfter setting state (step_of setting state number).0
unfolding IsAfter
one_step setting state number = (number ∷ [], refl)

more_steps : (setting : Setting) (from mid state : State) → IsAfter setting from mid → IsAfter setting mid state → IsAfter setting from state
unfolding IsAfter
more_steps setting from mid state a b =
    (a.0 ++ b.0, b.1 ∙ (ap (λ (s : State). after_steps setting s b.0) a.1 ∙ sym (after_append setting from a.0 b.0)))

moves_after : (most : ℕ) (setting : Setting) (state : State) (number : ℕ) → IsAfter setting state (moves most setting state number)
unfolding moves
moves_after zero setting state number = no_steps setting state
moves_after (suc most) setting state number = elim (cases_Bool (is_moved (step_of setting state number).1)) [
  | inl t ↦ rw t (more_steps setting state (step_of setting state number).0 (moves most setting (step_of setting state number).0 number) (one_step setting state number) (moves_after most setting (step_of setting state number).0 number))
  | inr f ↦ rw f (one_step setting state number)
]

pub whole_is_after : (setting : Setting) (state : State) (number : ℕ) → IsAfter setting state (whole_of setting state number)
whole_is_after setting state number = moves_after (steps_left setting number (session_at state number)) setting state number

item_after : (setting : Setting) (state : State) (item : Item) → IsAfter setting state (item_of setting state item)
item_after setting state item = elim (cases_Bool item.whole) [
  | inl t ↦ rw t (whole_is_after setting state item.session)
  | inr f ↦ rw f (one_step setting state item.session)
]

pub items_after : (setting : Setting) (state : State) (items : List Item) → IsAfter setting state (items_of setting state items)
items_after setting state [] = no_steps setting state
items_after setting state (item ∷ items) =
    more_steps setting state (item_of setting state item) (items_of setting (item_of setting state item) items) (item_after setting state item) (items_after setting (item_of setting state item) items)

pub round_after : (setting : Setting) (state : State) (number left : ℕ) → IsAfter setting state (round_from setting state number left)
round_after setting state number zero = no_steps setting state
round_after setting state number (suc left) =
    more_steps setting state (whole_of setting state number) (round_from setting (whole_of setting state number) (suc number) left) (whole_is_after setting state number) (round_after setting (whole_of setting state number) (suc number) left)

repeated_after : (most : ℕ) (setting : Setting) (state : State) → IsAfter setting state (repeated most setting state)
unfolding repeated
repeated_after zero setting state = no_steps setting state
repeated_after (suc most) setting state = elim (cases_Bool (all_ended_from setting 0 state.sessions)) [
  | inl t ↦ rw t (no_steps setting state)
  | inr f ↦ rw f (more_steps setting state (round_of setting state) (repeated most setting (round_of setting state)) (round_after setting state 0 (length state.sessions)) (repeated_after most setting (round_of setting state)))
]

pub run_is_steps : RunsAreSteps
unfolding IsAfter
run_is_steps setting items =
    more_steps setting (opening_of setting) (items_of setting (opening_of setting) items) (run_of setting items) (items_after setting (opening_of setting) items)
    (repeated_after (measure_of setting (items_of setting (opening_of setting) items)) setting (items_of setting (opening_of setting) items))
