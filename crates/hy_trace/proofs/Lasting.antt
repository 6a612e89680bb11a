-- More steps than a session has left, and more rounds than end it all, add no step.
use Rattle.std.proofs.Common.{◌≡◌, ℕ, zero, suc, ◌+◌, ◌-◌, ◌<◌, ◌≤◌, List, [], ◌∷◌, ◌++◌, length, drop, map, Option, None, Some, Bool, true, false, cond}
use Rattle.std.proofs.Common.{refl, ap, sym, ◌∙◌, subst, arith, inl, inr}
use Rattle.std.specs.Prelude.{is_none, slice_get}
use Rattle.std.proofs.lemmas.Bool.{cases_Bool}
use Rattle.std.proofs.lemmas.Option.{same_Some}
use Rattle.hy_bound.specs.declared.Txn.{Txn}
use Rattle.hy_bound.specs.declared.schedule.Item.{Item}
use Rattle.hy_protocol.specs.declared.Phase.{Phase}
use Rattle.hy_protocol.specs.declared.Phase.TheVariants.{Working, Stamping, Undoing}
use Rattle.hy_machine.specs.declared.Setting.{Setting}
use Rattle.hy_machine.specs.States.{State, Open}
use Rattle.hy_machine.specs.Sessions.{session_at, program_of, txn_at}
use Rattle.hy_machine.specs.Steps.{step_of}
use Rattle.hy_machine.specs.Measures.{open_left, later_left, txns_left, steps_left, measure_of}
use Rattle.hy_machine.specs.Runs.{IsReached, StepsFall, RunsEnd, opening_of, after_steps, is_moved, items_of, round_of, all_ended_from, repeated, rounds_of}
use Rattle.hy_stepping.specs.Bounds.{BoundsAreEnough, most_turns}
use Rattle.hy_stepping.specs.Runnable.{IsRunnable}
use Rattle.hy_trace.specs.Steps.{step_and, unless_ended, moves_taken, whole_taken, round_taken, repeated_taken, rounds_taken}

-- ---- steps

dropped_at : {A : Type 0} (xs : List A) (n : ℕ) (x : A) → slice_get xs n ≡ Some x → drop n xs ≡ x ∷ drop (suc n) xs
dropped_at [] n x e = absurd (cc e)
dropped_at (y ∷ ys) zero x e = ap (λ z. z ∷ ys) (same_Some y x e)
dropped_at (y ∷ ys) (suc n) x e = dropped_at ys n x e

-- where no steps are left the session is at the end of its script
none_left : (setting : Setting) (now : Option Open) (txns : List Txn) (n : ℕ) (txn : Option Txn) → slice_get txns n ≡ txn
    → txns_left setting now (drop n txns) ≡ 0 → txn ≡ None
none_left setting now txns n None e h = refl
none_left setting None txns n (Some txn) e h =
    let d = dropped_at txns n txn e in
    absurd (omega (arith, rw d at h))
none_left setting (Some current) txns n (Some txn) e h =
    let d = dropped_at txns n txn e in
    absurd (open_some current.phase (rw d at h))
  where
    open_some : (phase : Phase) → open_left setting txn current.begun phase + later_left setting (drop (suc n) txns) ≡ 0 → ⊥
    open_some (Working visited count) h = omega (arith, h)
    open_some (Stamping visited) h = omega (arith, h)
    open_some (Undoing visited cause) h = omega (arith, h)

over : (setting : Setting) (state : State) (number : ℕ) → steps_left setting number (session_at state number) ≡ 0
    → txn_at setting number (session_at state number) ≡ None
over setting state number h =
    none_left setting (session_at state number).now (program_of setting number) (length (session_at state number).done)
    (txn_at setting number (session_at state number)) refl h

-- a session at the end of its script takes no step, so many at most
pub ended_takes_none : (most : ℕ) (setting : Setting) (state : State) (number : ℕ) → txn_at setting number (session_at state number) ≡ None
    → moves_taken most setting state number ≡ []
unfolding moves_taken
ended_takes_none zero setting state number e = refl
ended_takes_none (suc most) setting state number e =
    ap (λ (txn : Option Txn). unless_ended txn (step_and number (is_moved (step_of setting state number).1)
    (moves_taken most setting (step_of setting state number).0 number))) e

step_same : (number : ℕ) (behind other : List ℕ) (goes_on : Bool) → (goes_on ≡ true → behind ≡ other)
    → step_and number goes_on behind ≡ step_and number goes_on other
step_same number behind other true same = ap (λ (rest : List ℕ). number ∷ rest) (same refl)
step_same number behind other false same = refl

pub moves_last : StepsFall → (a b : ℕ) (setting : Setting) (state : State) (number : ℕ) → steps_left setting number (session_at state number) ≤ a
    → steps_left setting number (session_at state number) ≤ b → moves_taken a setting state number ≡ moves_taken b setting state number
unfolding moves_taken
moves_last falls zero b setting state number h k = sym (ended_takes_none b setting state number (over setting state number (omega (arith, h))))
moves_last falls (suc a) zero setting state number h k = ended_takes_none (suc a) setting state number (over setting state number (omega (arith, k)))
moves_last falls (suc a) (suc b) setting state number h k =
    ap (unless_ended (txn_at setting number (session_at state number)))
    (step_same number (moves_taken a setting (step_of setting state number).0 number) (moves_taken b setting (step_of setting state number).0 number)
    (is_moved (step_of setting state number).1)
    (λ moved.
    let less = falls setting state number moved in
    moves_last falls a b setting (step_of setting state number).0 number (omega (arith, less, h)) (omega (arith, less, k))))

-- one step more, where it goes on or not
at_and : (txn : Option Txn) (steps : List ℕ) → is_none txn ≡ false → unless_ended txn steps ≡ steps
at_and None steps e = absurd (cc e)
at_and (Some txn) steps e = refl

pub one_more : (left : ℕ) (setting : Setting) (state : State) (number : ℕ) → is_none (txn_at setting number (session_at state number)) ≡ false
    → is_moved (step_of setting state number).1 ≡ true
    → moves_taken (suc left) setting state number ≡ number ∷ moves_taken left setting (step_of setting state number).0 number
unfolding moves_taken
one_more left setting state number there moved =
    at_and (txn_at setting number (session_at state number))
    (step_and number (is_moved (step_of setting state number).1) (moves_taken left setting (step_of setting state number).0 number)) there
    ∙ ap (λ (goes_on : Bool). step_and number goes_on (moves_taken left setting (step_of setting state number).0 number)) moved

pub one_last : (left : ℕ) (setting : Setting) (state : State) (number : ℕ) → is_none (txn_at setting number (session_at state number)) ≡ false
    → is_moved (step_of setting state number).1 ≡ false → moves_taken (suc left) setting state number ≡ number ∷ []
unfolding moves_taken
one_last left setting state number there stays =
    at_and (txn_at setting number (session_at state number))
    (step_and number (is_moved (step_of setting state number).1) (moves_taken left setting (step_of setting state number).0 number)) there
    ∙ ap (λ (goes_on : Bool). step_and number goes_on (moves_taken left setting (step_of setting state number).0 number)) stays

pub no_more : (left : ℕ) (setting : Setting) (state : State) (number : ℕ) → left ≡ 0 → moves_taken left setting state number ≡ []
unfolding moves_taken
no_more left setting state number e = ap (λ (n : ℕ). moves_taken n setting state number) e

-- as many steps as the engine's loop has turns are enough
pub whole_lasts : StepsFall → BoundsAreEnough → (setting : Setting) (state : State) (number : ℕ) → IsRunnable setting → IsReached setting state
    → moves_taken most_turns setting state number ≡ whole_taken setting state number
whole_lasts falls enough setting state number runnable reached =
    let few = enough.steps setting state number runnable reached in
    moves_last falls most_turns (steps_left setting number (session_at state number)) setting state number (omega (arith, few)) (omega arith)

-- ---- rounds

rounds_last : (a b : ℕ) (setting : Setting) (state : State) → all_ended_from setting 0 (repeated a setting state).sessions ≡ true
    → all_ended_from setting 0 (repeated b setting state).sessions ≡ true → repeated_taken a setting state ≡ repeated_taken b setting state
unfolding repeated repeated_taken
rounds_last zero zero setting state h k = refl
rounds_last zero (suc b) setting state h k = rw h refl
rounds_last (suc a) zero setting state h k = rw k refl
rounds_last (suc a) (suc b) setting state h k = elim (cases_Bool (all_ended_from setting 0 state.sessions)) [
  | inl t ↦ rw t refl
  | inr f ↦
      let first = rw f at h in
      let second = rw f at k in
      rw f (ap (λ (behind : List ℕ). round_taken setting state ++ behind) (rounds_last a b setting (round_of setting state) first second))
]

-- one round more, where some are left or not
pub round_more : (left : ℕ) (setting : Setting) (state : State) → all_ended_from setting 0 state.sessions ≡ false
    → repeated_taken (suc left) setting state ≡ round_taken setting state ++ repeated_taken left setting (round_of setting state)
unfolding repeated_taken
round_more left setting state f =
    ap (λ (ended : Bool). cond ended [] (round_taken setting state ++ repeated_taken left setting (round_of setting state))) f

pub no_rounds : (left : ℕ) (setting : Setting) (state : State) → all_ended_from setting 0 state.sessions ≡ true → repeated_taken left setting state ≡ []
unfolding repeated_taken
no_rounds zero setting state t = refl
no_rounds (suc left) setting state t =
    ap (λ (ended : Bool). cond ended [] (round_taken setting state ++ repeated_taken left setting (round_of setting state))) t

pub none_repeated : (left : ℕ) (setting : Setting) (state : State) → left ≡ 0 → repeated_taken left setting state ≡ []
unfolding repeated_taken
none_repeated left setting state e = ap (λ (n : ℕ). repeated_taken n setting state) e

-- the item of a schedule that is one step of a session
abbrev single : ℕ → Item
single number = record { session = number; whole = false }

singles : (setting : Setting) (state : State) (numbers : List ℕ) → items_of setting state (map single numbers) ≡ after_steps setting state numbers
singles setting state [] = refl
singles setting state (number ∷ numbers) = singles setting (step_of setting state number).0 numbers

-- from a state that the machine comes to, rounds end all sessions
rounds_end : RunsEnd → (setting : Setting) (state : State) → IsReached setting state → all_ended_from setting 0 (rounds_of setting state).sessions ≡ true
rounds_end ends setting state reached =
    let same : items_of setting (opening_of setting) (map single reached.0) ≡ state =
    singles setting (opening_of setting) reached.0 ∙ sym reached.1 in
    let P : State → Type 0 = λ from. all_ended_from setting 0 (rounds_of setting from).sessions ≡ true in
    subst P same (ends setting (map single reached.0))

-- as many rounds as the engine's loop has are enough
pub all_rounds_last : RunsEnd → BoundsAreEnough → (setting : Setting) (state : State) → IsRunnable setting → IsReached setting state
    → repeated_taken most_turns setting state ≡ rounds_taken setting state
all_rounds_last ends enough setting state runnable reached =
    let over = rounds_end ends setting state reached in
    rounds_last most_turns (measure_of setting state) setting state
    (ap (λ (last : State). all_ended_from setting 0 last.sessions) (enough.rounds setting state runnable reached) ∙ over) over
