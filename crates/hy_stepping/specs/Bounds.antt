-- How long the engine's loops go on: a fixed number of steps or rounds is as good as the machine's own bounds.
use Rattle.std.specs.Prelude.{◌≡◌, ℕ, zero, suc, ◌+◌, ◌-◌, ◌^◌, ◌<◌, ◌≤◌, true, false}
use Rattle.hy_machine.specs.declared.Setting.{Setting}
use Rattle.hy_machine.specs.States.{State}
use Rattle.hy_machine.specs.Measures.{steps_left}
use Rattle.hy_machine.specs.Runs.{IsReached, is_moved, moves, repeated, rounds_of, whole_of}
use Rattle.hy_machine.specs.Sessions.{session_at}
use Rattle.hy_machine.specs.Steps.{step_of}
use Rattle.hy_stepping.specs.Runnable.{IsRunnable}

-- so many steps a session takes at most without an answer, and so many rounds there are at most
abbrev pub most_turns : ℕ
most_turns = 2 ^ 64 - 1

-- so many steps of a session, each of which goes on, lead from a state to another
abbrev pub AreMoves : Setting → ℕ → ℕ → State → State → Type 0
AreMoves setting number zero state last = last ≡ state
AreMoves setting number (suc count) state last =
    (is_moved (step_of setting state number).1 ≡ true) × AreMoves setting number count (step_of setting state number).0 last

-- what a session has left of its steps until it answers is the same where some of them are taken, and these are fewer then
pub record IsOnItsWay (setting : Setting) (number count : ℕ) (state last : State) : Type 0 where
  pub whole : whole_of setting last number ≡ whole_of setting state number
  pub fewer : count + steps_left setting number (session_at last number) ≤ steps_left setting number (session_at state number)

-- in a state that the machine comes to
pub record BoundsAreEnough : Type 0 where
  pub steps : (setting : Setting) (state : State) (number : ℕ) → IsRunnable setting → IsReached setting state
      → steps_left setting number (session_at state number) < most_turns
  pub rounds : (setting : Setting) (state : State) → IsRunnable setting → IsReached setting state
      → repeated most_turns setting state ≡ rounds_of setting state

-- a session's steps until it answers, one after another: some that go on, and the last one
pub record WholesAreSteps : Type 0 where
  pub on : (setting : Setting) (number count : ℕ) (state last : State) → AreMoves setting number count state last
      → IsOnItsWay setting number count state last
  pub over : (setting : Setting) (state : State) (number : ℕ) → is_moved (step_of setting state number).1 ≡ false
      → (step_of setting state number).0 ≡ whole_of setting state number

-- what the machine comes to from a state that it comes to, it comes to
pub record RunsAreReached : Type 0 where
  pub step : (setting : Setting) (state : State) (number : ℕ) → IsReached setting state → IsReached setting (step_of setting state number).0
  pub moves : (most : ℕ) (setting : Setting) (state : State) (number : ℕ) → IsReached setting state → IsReached setting (moves most setting state number)
  pub rounds : (most : ℕ) (setting : Setting) (state : State) → IsReached setting state → IsReached setting (repeated most setting state)
