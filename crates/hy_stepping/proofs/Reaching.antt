-- What the machine comes to from a state that it comes to, it comes to.
use Rattle.std.proofs.Common.{◌≡◌, ℕ, zero, suc, List, [], ◌∷◌, ◌++◌, length, refl, ap, ◌∙◌, sym, inl, inr}
use Rattle.std.proofs.lemmas.Bool.{cases_Bool}
use Rattle.hy_machine.specs.declared.Setting.{Setting}
use Rattle.hy_machine.specs.States.{State}
use Rattle.hy_machine.specs.Sessions.{session_at}
use Rattle.hy_machine.specs.Steps.{step_of}
use Rattle.hy_machine.specs.Measures.{steps_left}
use Rattle.hy_machine.specs.Runs.{IsReached, opening_of, after_steps, is_moved, moves, whole_of, round_from, round_of, all_ended_from, repeated}

steps_then : (setting : Setting) (state : State) (numbers : List ℕ) (number : ℕ)
    → after_steps setting state (numbers ++ number ∷ []) ≡ (step_of setting (after_steps setting state numbers) number).0
steps_then setting state [] number = refl
steps_then setting state (first ∷ numbers) number = steps_then setting (step_of setting state first).0 numbers number

pub step_reached : (setting : Setting) (state : State) (number : ℕ) → IsReached setting state → IsReached setting (step_of setting state number).0
step_reached setting state number reached = (
  reached.0 ++ number ∷ [],
  ap (λ (from : State). (step_of setting from number).0) reached.1 ∙ sym (steps_then setting (opening_of setting) reached.0 number),
)

pub moves_reached : (most : ℕ) (setting : Setting) (state : State) (number : ℕ) → IsReached setting state → IsReached setting (moves most setting state number)
unfolding moves
moves_reached zero setting state number reached = reached
moves_reached (suc most) setting state number reached =
    let next = step_reached setting state number reached in
    elim (cases_Bool (is_moved (step_of setting state number).1)) [
      | inl t ↦ rw t (moves_reached most setting (step_of setting state number).0 number next)
      | inr f ↦ rw f next
    ]

round_reached : (left : ℕ) (setting : Setting) (state : State) (number : ℕ) → IsReached setting state → IsReached setting (round_from setting state number left)
round_reached zero setting state number reached = reached
round_reached (suc left) setting state number reached =
    round_reached left setting (whole_of setting state number) (suc number)
    (moves_reached (steps_left setting number (session_at state number)) setting state number reached)

pub rounds_reached : (most : ℕ) (setting : Setting) (state : State) → IsReached setting state → IsReached setting (repeated most setting state)
unfolding repeated
rounds_reached zero setting state reached = reached
rounds_reached (suc most) setting state reached = elim (cases_Bool (all_ended_from setting 0 state.sessions)) [
  | inl t ↦ rw t reached
  | inr f ↦ rw f (rounds_reached most setting (round_of setting state) (round_reached (length state.sessions) setting state 0 reached))
]
