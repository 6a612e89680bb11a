-- More steps than a session has left, and more rounds than end it all, change nothing; and a session's steps until it answers
-- may be taken one after another.
use Rattle.std.proofs.Common.{◌≡◌, ℕ, zero, suc, ◌+◌, ◌≤◌, List, [], ◌∷◌, length, drop, map, refl, ap, ◌∙◌, sym, subst, arith, Option, None, Some}
use Rattle.std.proofs.Common.{true, false, inl, inr}
use Rattle.std.specs.Prelude.{slice_get}
use Rattle.std.proofs.lemmas.Bool.{cases_Bool}
use Rattle.std.proofs.lemmas.Option.{same_Some}
use Rattle.hy_bound.specs.declared.Txn.{Txn}
use Rattle.hy_bound.specs.declared.schedule.Item.{Item}
use Rattle.hy_machine.specs.declared.Setting.{Setting}
use Rattle.hy_protocol.specs.declared.Phase.{Phase}
use Rattle.hy_protocol.specs.declared.Phase.TheVariants.{Working, Stamping, Undoing}
use Rattle.hy_machine.specs.States.{State, Open}
use Rattle.hy_protocol.specs.declared.Progress.TheVariants.{Ended}
use Rattle.hy_machine.specs.Sessions.{session_at, program_of, txn_at}
use Rattle.hy_machine.specs.Turns.{session_turn}
use Rattle.hy_machine.specs.Steps.{after_turn, step_of}
use Rattle.hy_machine.specs.Measures.{open_left, later_left, txns_left, steps_left}
use Rattle.hy_machine.specs.Runs.{IsReached, StepsFall, RunsEnd, is_moved, moves, whole_of, round_of, all_ended_from, repeated, rounds_of}
use Rattle.hy_machine.specs.Runs.{opening_of, after_steps, items_of}
use Rattle.hy_stepping.specs.Bounds.{AreMoves, IsOnItsWay, WholesAreSteps}

-- ---- steps

drop_at : {A : Type 0} (xs : List A) (n : ℕ) (x : A) → slice_get xs n ≡ Some x → drop n xs ≡ x ∷ drop (suc n) xs
drop_at [] n x e = absurd (cc e)
drop_at (y ∷ ys) zero x e = ap (λ z. z ∷ ys) (same_Some y x e)
drop_at (y ∷ ys) (suc n) x e = drop_at ys n x e

-- where no steps are left the session has ended
none_left : (setting : Setting) (state : State) (number : ℕ) (now : Option Open) (txns : List Txn) (n : ℕ) (txn : Option Txn) → slice_get txns n ≡ txn
    → txns_left setting now (drop n txns) ≡ 0 → after_turn setting state number (session_turn setting state number txn now) ≡ (state, Ended)
none_left setting state number now txns n None e h = refl
none_left setting state number None txns n (Some txn) e h =
    let d = drop_at txns n txn e in
    absurd (omega (arith, rw d at h))
none_left setting state number (Some current) txns n (Some txn) e h =
    let d = drop_at txns n txn e in
    absurd (open_some current.phase (rw d at h))
  where
    open_some : (phase : Phase) → open_left setting txn current.begun phase + later_left setting (drop (suc n) txns) ≡ 0 → ⊥
    open_some (Working visited count) h = omega (arith, h)
    open_some (Stamping visited) h = omega (arith, h)
    open_some (Undoing visited cause) h = omega (arith, h)

over : (setting : Setting) (state : State) (number : ℕ) → steps_left setting number (session_at state number) ≡ 0
    → step_of setting state number ≡ (state, Ended)
over setting state number h =
    none_left setting state number (session_at state number).now (program_of setting number) (length (session_at state number).done)
    (txn_at setting number (session_at state number)) refl h

moves_same : StepsFall → (a b : ℕ) (setting : Setting) (state : State) (number : ℕ) → steps_left setting number (session_at state number) ≤ a
    → steps_left setting number (session_at state number) ≤ b → moves a setting state number ≡ moves b setting state number
unfolding moves
moves_same falls zero zero setting state number h k = refl
moves_same falls zero (suc b) setting state number h k = rw (over setting state number (omega arith)) refl
moves_same falls (suc a) zero setting state number h k = rw (over setting state number (omega arith)) refl
moves_same falls (suc a) (suc b) setting state number h k = elim (cases_Bool (is_moved (step_of setting state number).1)) [
  | inl t ↦
      let f = falls setting state number t in
      rw t (moves_same falls a b setting (step_of setting state number).0 number (omega arith) (omega arith))
  | inr f ↦ rw f refl
]

-- one more step, where it goes on or not
one_more : (most : ℕ) (setting : Setting) (state : State) (number : ℕ) → is_moved (step_of setting state number).1 ≡ true
    → moves (suc most) setting state number ≡ moves most setting (step_of setting state number).0 number
unfolding moves
one_more most setting state number t = rw t refl

one_last : (most : ℕ) (setting : Setting) (state : State) (number : ℕ) → is_moved (step_of setting state number).1 ≡ false
    → moves (suc most) setting state number ≡ (step_of setting state number).0
unfolding moves
one_last most setting state number f = rw f refl

-- a step more than are left changes nothing
whole_more : StepsFall → (setting : Setting) (state : State) (number : ℕ)
    → moves (suc (steps_left setting number (session_at state number))) setting state number ≡ whole_of setting state number
whole_more falls setting state number =
    let left : ℕ = steps_left setting number (session_at state number) in
    moves_same falls (suc left) left setting state number (omega arith) (omega arith)

goes_on : StepsFall → (setting : Setting) (state : State) (number : ℕ) → is_moved (step_of setting state number).1 ≡ true
    → whole_of setting (step_of setting state number).0 number ≡ whole_of setting state number
goes_on falls setting state number t =
    let left : ℕ = steps_left setting number (session_at state number) in
    let next : State = (step_of setting state number).0 in
    let less = falls setting state number t in
    moves_same falls (steps_left setting number (session_at next number)) left setting next number (omega arith) (omega (arith, less))
    ∙ (sym (one_more left setting state number t) ∙ whole_more falls setting state number)

all_go_on : StepsFall → (setting : Setting) (number count : ℕ) (state last : State) → AreMoves setting number count state last
    → IsOnItsWay setting number count state last
all_go_on falls setting number zero state last same = record {
  whole = ap (λ (s : State). whole_of setting s number) same;
  fewer = let e = ap (λ (s : State). steps_left setting number (session_at s number)) same in omega (arith, e);
}
all_go_on falls setting number (suc count) state last moved =
    let less = falls setting state number moved.0 in
    let rest = all_go_on falls setting number count (step_of setting state number).0 last moved.1 in
    record {
      whole = rest.whole ∙ goes_on falls setting state number moved.0;
      fewer = let few = rest.fewer in omega (arith, few, less);
    }

pub wholes : StepsFall → WholesAreSteps
wholes falls = record {
  on = all_go_on falls;
  over = λ setting state number f.
      sym (one_last (steps_left setting number (session_at state number)) setting state number f) ∙ whole_more falls setting state number;
}

-- ---- rounds

-- where so many rounds end all sessions, more of them change nothing
pub repeated_same : (a b : ℕ) (setting : Setting) (state : State) → a ≤ b → all_ended_from setting 0 (repeated a setting state).sessions ≡ true
    → repeated b setting state ≡ repeated a setting state
unfolding repeated
repeated_same zero zero setting state l h = refl
repeated_same zero (suc b) setting state l h = rw h refl
repeated_same (suc a) zero setting state l h = absurd (omega (arith, l))
repeated_same (suc a) (suc b) setting state l h = elim (cases_Bool (all_ended_from setting 0 state.sessions)) [
  | inl t ↦ rw t refl
  | inr f ↦
      let rest = rw f at h in
      rw f (repeated_same a b setting (round_of setting state) (omega arith) rest)
]

-- the item of a schedule that is one step of a session
abbrev single : ℕ → Item
single number = record { session = number; whole = false }

singles : (setting : Setting) (state : State) (numbers : List ℕ) → items_of setting state (map single numbers) ≡ after_steps setting state numbers
singles setting state [] = refl
singles setting state (number ∷ numbers) = singles setting (step_of setting state number).0 numbers

-- from a state that the machine comes to, rounds end all sessions
pub rounds_end : RunsEnd → (setting : Setting) (state : State) → IsReached setting state
    → all_ended_from setting 0 (rounds_of setting state).sessions ≡ true
rounds_end ends setting state reached =
    let same : items_of setting (opening_of setting) (map single reached.0) ≡ state =
    singles setting (opening_of setting) reached.0 ∙ sym reached.1 in
    let P : State → Type 0 = λ from. all_ended_from setting 0 (rounds_of setting from).sessions ≡ true in
    subst P same (ends setting (map single reached.0))
