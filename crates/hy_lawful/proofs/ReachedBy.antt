-- What holds of the opening, and stays so where a session begins a transaction or its open one takes a turn, holds of each state
-- that the machine comes to.
use Rattle.std.proofs.Common.{◌≡◌, ℕ, ◌<◌, List, [], ◌∷◌, ◌++◌, Option, None, Some, length, refl, ap, sym, ◌∙◌, subst}
use Rattle.hy_bound.specs.declared.Txn.{Txn}
use Rattle.hy_stamp.specs.declared.Label.{Label}
use Rattle.hy_machine.specs.declared.Setting.{Setting}
use Rattle.hy_machine.specs.States.{State, Open}
use Rattle.hy_protocol.specs.Turns.{Begins, unless_blocked}
use Rattle.hy_machine.specs.Turns.{session_turn, phase_turn}
use Rattle.hy_machine.specs.Sessions.{session_at, txn_at, blocker}
use Rattle.hy_machine.specs.Steps.{after_turn, step_of}
use Rattle.hy_machine.specs.Runs.{opening_of, after_steps, IsReached}
use Rattle.hy_lawful.proofs.Fits.{OpenFits, NowFits, NowStamps, Fits}
use Rattle.hy_lawful.proofs.Turns.{FitsTurn, phase_fits}
use Rattle.hy_lawful.proofs.Reached.{is_there, reached_fits}

-- a session that has no open transaction may begin its next one
pub record MayBegin (setting : Setting) (state : State) (number : ℕ) (txn : Txn) : Type 0 where
  pub reached : IsReached setting state
  pub fits : Fits setting state
  pub there : number < length state.sessions
  pub at : txn_at setting number (session_at state number) ≡ Some txn
  pub rests : (session_at state number).now ≡ None
  pub free : blocker state number ≡ None

-- an open transaction takes its turn
pub record TakesTurn (setting : Setting) (state : State) (number : ℕ) (txn : Txn) (current : Open) : Type 0 where
  pub reached : IsReached setting state
  pub fits : Fits setting state
  pub there : number < length state.sessions
  pub at : txn_at setting number (session_at state number) ≡ Some txn
  pub is : (session_at state number).now ≡ Some current
  pub present : OpenFits setting state.order state.mark number (session_at state number).done current
  pub turn : FitsTurn setting state number current.begun (phase_turn setting state number txn current.begun current.phase)

-- what a turn keeps, whatever the session has open
pub record KeptByTurns (setting : Setting) (P : State → Type 0) : Type 0 where
  pub begins : (state : State) (number : ℕ) (txn : Txn) → P state → MayBegin setting state number txn → P (after_turn setting state number Begins).0
  pub turns : (state : State) (number : ℕ) (txn : Txn) (current : Open) → P state → TakesTurn setting state number txn current
      → P (after_turn setting state number (phase_turn setting state number txn current.begun current.phase)).0

steps_more : (setting : Setting) (state : State) (numbers : List ℕ) (number : ℕ)
    → after_steps setting state (numbers ++ number ∷ []) ≡ (step_of setting (after_steps setting state numbers) number).0
steps_more setting state [] number = refl
steps_more setting state (one ∷ numbers) number = steps_more setting (step_of setting state one).0 numbers number

pub reached_step : (setting : Setting) (state : State) (number : ℕ) → IsReached setting state → IsReached setting (step_of setting state number).0
reached_step setting state number r = (
  r.0 ++ number ∷ [],
  ap (λ (one : State). (step_of setting one number).0) r.1 ∙ sym (steps_more setting (opening_of setting) r.0 number),
)

module _ (setting : Setting) (P : State → Type 0) (kept : KeptByTurns setting P) where
  by_blocker : (state : State) (number : ℕ) (by : Option Label) → P state → (by ≡ None → P (after_turn setting state number Begins).0)
      → P (after_turn setting state number (unless_blocked by Begins)).0
  by_blocker state number None h begins = begins refl
  by_blocker state number (Some by) h begins = h

  by_now : (state : State) (number : ℕ) (txn : Txn) → IsReached setting state → P state → txn_at setting number (session_at state number) ≡ Some txn
      → (now : Option Open) → (session_at state number).now ≡ now → P (after_turn setting state number (session_turn setting state number (Some txn) now)).0
  by_now state number txn r h e None rests =
      let fits = reached_fits setting state r in
      by_blocker state number (blocker state number) h
      (λ free. kept.begins state number txn h
      (record { reached = r; fits = fits; there = is_there setting state number txn fits e; at = e; rests = rests; free = free }))
  by_now state number txn r h e (Some current) is =
      let fits = reached_fits setting state r in
      let present : OpenFits setting state.order state.mark number (session_at state number).done current =
      subst (NowFits setting state.order state.mark number (session_at state number).done) is (fits.sessions number).now in
      kept.turns state number txn current h (record {
        reached = r;
        fits = fits;
        there = is_there setting state number txn fits e;
        at = e;
        is = is;
        present = present;
        turn = phase_fits setting state fits number txn current.begun e present.above present.records current.phase present.phase
            (λ m. subst NowStamps is (fits.marked number m));
      })

  by_txn : (state : State) (number : ℕ) → IsReached setting state → P state → (txn : Option Txn) → txn_at setting number (session_at state number) ≡ txn
      → P (after_turn setting state number (session_turn setting state number txn (session_at state number).now)).0
  by_txn state number r h None e = h
  by_txn state number r h (Some txn) e = by_now state number txn r h e (session_at state number).now refl

  steps_keep : (state : State) (numbers : List ℕ) → IsReached setting state → P state → P (after_steps setting state numbers)
  steps_keep state [] r h = h
  steps_keep state (number ∷ numbers) r h =
      steps_keep (step_of setting state number).0 numbers (reached_step setting state number r)
      (by_txn state number r h (txn_at setting number (session_at state number)) refl)

  pub reached_by : P (opening_of setting) → (state : State) → IsReached setting state → P state
  reached_by opening state r = subst P (sym r.1) (steps_keep (opening_of setting) r.0 ([], refl) opening)
