-- Turns that are answered are whole items of a schedule.
use Rattle.std.proofs.Common.{◌≡◌, ℕ, ◌<◌, ◌≤◌, zero, suc, List, [], ◌∷◌, length, map, drop, refl, ap, ◌∙◌, arith, true, Option, None, Some, cond}
use Rattle.std.specs.Prelude.{slice_get}
use Rattle.hy_bound.specs.declared.Txn.{Txn}
use Rattle.hy_protocol.specs.declared.Phase.{Phase}
use Rattle.hy_protocol.specs.declared.Phase.TheVariants.{Working, Stamping, Undoing}
use Rattle.hy_protocol.specs.declared.Progress.{Progress}
use Rattle.hy_protocol.specs.declared.Progress.TheVariants.{Moved, Answered}
use Rattle.hy_machine.specs.declared.Setting.{Setting}
use Rattle.hy_machine.specs.States.{State, Open}
use Rattle.hy_machine.specs.Sessions.{session_at, program_of, txn_at}
use Rattle.hy_machine.specs.Measures.{open_left, txns_left, steps_left, measure_of}
use Rattle.hy_machine.specs.Turns.{session_turn}
use Rattle.hy_machine.specs.Steps.{after_turn, step_of}
use Rattle.hy_machine.specs.Runs.{is_moved, moves, whole_of, items_of, opening_of, all_ended_from, repeated, rounds_of, StepsFall}
use Rattle.hy_growing.specs.Growing.{IsAnswered, at_once, later, whole_item, AnswersAreWhole, TurnsAreRuns}

-- ---- steps are left before an answer

open_some : (setting : Setting) (txn : Txn) (current : Open) → 0 < open_left setting txn current.begun current.phase
open_some setting txn current = by_phase current.phase
  where
    by_phase : (phase : Phase) → 0 < open_left setting txn current.begun phase
    by_phase (Working visited count) = omega arith
    by_phase (Stamping visited) = omega arith
    by_phase (Undoing visited cause) = omega arith

-- some are left where there is a transaction before a session
some_left : (setting : Setting) (now : Option Open) (txns : List Txn) (n : ℕ) (txn : Txn) → slice_get txns n ≡ Some txn
    → 0 < txns_left setting now (drop n txns)
some_left setting now [] n txn e = absurd (cc e)
some_left setting None (one ∷ txns) zero txn e = omega arith
some_left setting (Some current) (one ∷ txns) zero txn e = omega (arith, open_some setting one current)
some_left setting now (one ∷ txns) (suc n) txn e = some_left setting now txns n txn e

-- so there is where a step answers or goes on
answered_has : (setting : Setting) (state : State) (number : ℕ) (txn : Option Txn) (now : Option Open)
    → (after_turn setting state number (session_turn setting state number txn now)).1 ≡ Answered → (one : Txn) × (txn ≡ Some one)
answered_has setting state number None now a = absurd (cc a)
answered_has setting state number (Some txn) now a = (txn, refl)

moved_has : (setting : Setting) (state : State) (number : ℕ) (txn : Option Txn) (now : Option Open)
    → (after_turn setting state number (session_turn setting state number txn now)).1 ≡ Moved → (one : Txn) × (txn ≡ Some one)
moved_has setting state number None now a = absurd (cc a)
moved_has setting state number (Some txn) now a = (txn, refl)

pub answered_txn : (setting : Setting) (number : ℕ) (state next : State) → IsAnswered setting number state next
    → (txn : Txn) × (txn_at setting number (session_at state number) ≡ Some txn)
answered_txn setting number state next (at_once _ _ e a) =
    answered_has setting state number (txn_at setting number (session_at state number)) (session_at state number).now a
answered_txn setting number state next (later _ mid _ e m rest) =
    moved_has setting state number (txn_at setting number (session_at state number)) (session_at state number).now m

steps_before : (setting : Setting) (number : ℕ) (state next : State) → IsAnswered setting number state next → 0 < steps_left setting number (session_at state number)
steps_before setting number state next answered =
    let has = answered_txn setting number state next answered in
    some_left setting (session_at state number).now (program_of setting number) (length (session_at state number).done) has.0 has.1

-- ---- a turn is a whole item

moves_answered : StepsFall → (fuel : ℕ) (setting : Setting) (number : ℕ) (state next : State) → IsAnswered setting number state next
    → steps_left setting number (session_at state number) ≤ fuel → moves fuel setting state number ≡ next
unfolding moves
moves_answered falls zero setting number state next answered h = absurd (omega (arith, h, steps_before setting number state next answered))
moves_answered falls (suc fuel) setting number state next (at_once _ _ e a) h =
    let choice : Progress → State = λ progress. cond (is_moved progress) (moves fuel setting (step_of setting state number).0 number) (step_of setting state number).0 in
    ap choice a ∙ e
moves_answered falls (suc fuel) setting number state next (later _ mid _ e m rest) h =
    let choice : Progress → State = λ progress. cond (is_moved progress) (moves fuel setting (step_of setting state number).0 number) (step_of setting state number).0 in
    let less : steps_left setting number (session_at (step_of setting state number).0 number) < steps_left setting number (session_at state number) =
    falls setting state number (ap is_moved m) in
    let few : steps_left setting number (session_at mid number) ≤ fuel =
    omega (arith, h, less, ap (λ (from : State). steps_left setting number (session_at from number)) e) in
    ap choice m ∙ (ap (λ (from : State). moves fuel setting from number) e ∙ moves_answered falls fuel setting number mid next rest few)

pub answered_whole : StepsFall → (setting : Setting) (number : ℕ) (state next : State) → IsAnswered setting number state next → whole_of setting state number ≡ next
answered_whole falls setting number state next answered =
    moves_answered falls (steps_left setting number (session_at state number)) setting number state next answered (omega arith)

pub answers_whole : StepsFall → AnswersAreWhole
answers_whole falls setting state next [] a = a
answers_whole falls setting state next (number ∷ turns) a =
    ap (λ (from : State). items_of setting from (map whole_item turns)) (answered_whole falls setting number state a.0 a.1)
    ∙ answers_whole falls setting a.0 next turns a.2

-- no round follows where every session has ended
pub no_rounds : (most : ℕ) (setting : Setting) (state : State) → all_ended_from setting 0 state.sessions ≡ true → repeated most setting state ≡ state
unfolding repeated
no_rounds zero setting state e = refl
no_rounds (suc most) setting state e = rw e refl

pub turns_run : StepsFall → TurnsAreRuns
turns_run falls setting state turns a e =
    ap (rounds_of setting) (answers_whole falls setting (opening_of setting) state turns a) ∙ no_rounds (measure_of setting state) setting state e
