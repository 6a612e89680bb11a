-- All runs of a script with few sessions, one step after another, as far as their outcomes go.
use Rattle.std.proofs.Common.{◌≡◌, ℕ, zero, suc, ◌<◌, ◌≤◌, List, [], ◌∷◌, Option, None, Bool, true, false, length, cond, refl, ap, sym, ◌∙◌, subst}
use Rattle.std.proofs.Common.{arith, inl, inr}
use Rattle.std.specs.Prelude.{◌&&◌, slice_get}
use Rattle.std.proofs.lemmas.Bool.{cases_Bool, cases_lt, and_parts}
use Rattle.std.proofs.Math.ListN.{get_or-eq_default}
use Rattle.hy_bound.specs.declared.Txn.{Txn}
use Rattle.hy_render.specs.declared.Outcome.{Outcome}
use Rattle.hy_machine.specs.Writes.{Write}
use Rattle.hy_machine.specs.declared.Setting.{Setting}
use Rattle.hy_machine.specs.States.{State}
use Rattle.hy_protocol.specs.declared.Progress.{Progress}
use Rattle.hy_protocol.specs.declared.Progress.TheVariants.{Blocked, Moved, Answered, Ended}
use Rattle.hy_protocol.specs.Turns.{Turn, Done, Waits, Begins, Visits, Answers, Saves, Enters, Ends}
use Rattle.hy_machine.specs.Turns.{session_turn, turn}
use Rattle.hy_machine.specs.Sessions.{session_at, txn_at}
use Rattle.hy_machine.specs.Steps.{Step, after_turn, step_of}
use Rattle.hy_machine.specs.Runs.{after_steps, all_ended_from}
use Rattle.hy_machine.specs.Outcomes.{outcome_of}

-- whether a step left the state as it was
abbrev is_still : Progress → Bool
is_still (Blocked by) = true
is_still Moved = false
is_still Answered = false
is_still Ended = true

-- whether a test passes of the state after a step, unless this left the state as it was
abbrev passes_after : (State → Bool) → Step → Bool
passes_after test step = cond (is_still step.1) true (test step.0)

abbrev all_below : (ℕ → Bool) → ℕ → Bool
all_below test zero = true
all_below test (suc number) = all_below test number && test number

-- whether a test passes of the outcome of each state in which all have ended that some steps come to, no more than so many
abbrev pub explored : ℕ → (Outcome → Bool) → Setting → State → Bool
explored zero test setting state = false
explored (suc most) test setting state = cond (all_ended_from setting 0 state.sessions) (test (outcome_of setting state)) true
    && all_below (λ number. passes_after (explored most test setting) (step_of setting state number)) (length setting.programs)

below_all : (test : ℕ → Bool) (most number : ℕ) → all_below test most ≡ true → number < most → test number ≡ true
below_all test zero number h below = absurd (omega (arith, below))
below_all test (suc most) number h below =
    let parts = and_parts (all_below test most) (test most) h in
    elim (cases_lt number most) [
      | inl before ↦ below_all test most number parts.0 before
      | inr last ↦ subst (λ (n : ℕ). test n ≡ true) (let same : most ≡ number = omega (arith, below, last) in same) parts.1
    ]

-- a step that is told to leave the state as it was does so
turn_stays : (setting : Setting) (state : State) (number : ℕ) (one : Turn Write) → is_still (after_turn setting state number one).1 ≡ true
    → (after_turn setting state number one).0 ≡ state
turn_stays setting state number Done h = refl
turn_stays setting state number (Waits by) h = refl
turn_stays setting state number Begins h = absurd cc
turn_stays setting state number (Visits writes phase) h = absurd cc
turn_stays setting state number (Answers writes reply took records) h = absurd cc
turn_stays setting state number (Saves statement reply) h = absurd cc
turn_stays setting state number Enters h = absurd cc
turn_stays setting state number (Ends ending) h = absurd cc

-- a session that the script doesn't have does nothing
none_stays : (setting : Setting) (state : State) (number : ℕ) → length setting.programs ≤ number → (step_of setting state number).0 ≡ state
none_stays setting state number past =
    let none : txn_at setting number (session_at state number) ≡ None =
    ap (λ (txns : List Txn). slice_get txns (length (session_at state number).done)) (get_or-eq_default setting.programs [] past) in
    ap (λ (txn : Option Txn). (after_turn setting state number (session_turn setting state number txn (session_at state number).now)).0) none

-- what was explored passes
pub explored_passes : (most : ℕ) (test : Outcome → Bool) (setting : Setting) (state : State) (numbers : List ℕ) → explored most test setting state ≡ true
    → all_ended_from setting 0 (after_steps setting state numbers).sessions ≡ true → test (outcome_of setting (after_steps setting state numbers)) ≡ true
explored_passes zero test setting state numbers h over = absurd cc
explored_passes (suc most) test setting state [] h over =
    let here = (and_parts (cond (all_ended_from setting 0 state.sessions) (test (outcome_of setting state)) true) _ h).0 in
    ap (λ (b : Bool). cond b (test (outcome_of setting state)) true) (sym over) ∙ here
explored_passes (suc most) test setting state (number ∷ numbers) h over =
    let stays : (step_of setting state number).0 ≡ state → test (outcome_of setting (after_steps setting (step_of setting state number).0 numbers)) ≡ true =
    λ same. subst (λ (later : State). test (outcome_of setting (after_steps setting later numbers)) ≡ true) (sym same)
    (explored_passes (suc most) test setting state numbers h
    (ap (λ (later : State). all_ended_from setting 0 (after_steps setting later numbers).sessions) (sym same) ∙ over)) in
    elim (cases_lt number (length setting.programs)) [
      | inr past ↦ stays (none_stays setting state number past)
      | inl there ↦
          let next : passes_after (explored most test setting) (step_of setting state number) ≡ true =
          below_all (λ one. passes_after (explored most test setting) (step_of setting state one)) (length setting.programs) number
          (and_parts (cond (all_ended_from setting 0 state.sessions) (test (outcome_of setting state)) true) _ h).1 there in
          elim (cases_Bool (is_still (step_of setting state number).1)) [
            | inl still ↦ stays (turn_stays setting state number (turn setting state number) still)
            | inr moves ↦ explored_passes most test setting (step_of setting state number).0 numbers
                (ap (λ (b : Bool). cond b true (explored most test setting (step_of setting state number).0)) (sym moves) ∙ next) over
          ]
    ]
