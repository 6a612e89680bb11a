-- What it is that a world follows the machine: whatever state it shows, it shows the next one after a call.
use Rattle.std.specs.Prelude.{◌≡◌, ℕ, true}
use Rattle.hy_render.specs.declared.Outcome.{Outcome}
use Rattle.hy_machine.specs.declared.Setting.{Setting}
use Rattle.hy_machine.specs.States.{State}
use Rattle.hy_protocol.specs.declared.Progress.{Progress}
use Rattle.hy_machine.specs.Outcomes.{outcome_of}
use Rattle.hy_machine.specs.Steps.{step_of}
use Rattle.hy_stepping.specs.Bounds.{AreMoves}
use Rattle.hy_stepping.specs.Outcomes.{are_done}
use Rattle.hy_world.specs.Worlds.{WorldData, ShowsState}

-- of each state that the world shows it shows afterwards what the machine makes of it
abbrev pub Follows : (Setting → State → State) → WorldData → WorldData → Type 0
Follows makes old new = (setting : Setting) (state : State) → ShowsState setting state old → ShowsState setting (makes setting state) new

-- so for a step of a session, which comes to what the machine's step comes to
pub record IsStep (setting : Setting) (state : State) (number : ℕ) (stepped : Progress) (new : WorldData) : Type 0 where
  pub shows : ShowsState setting (step_of setting state number).0 new
  pub answer : (step_of setting state number).1 ≡ stepped

abbrev pub Steps : ℕ → Progress → WorldData → WorldData → Type 0
Steps number stepped old new = (setting : Setting) (state : State) → ShowsState setting state old → IsStep setting state number stepped new

-- so for steps of a session each of which goes on: they lead to a state that the world shows
pub record IsMovedOn (setting : Setting) (state : State) (number : ℕ) (new : WorldData) : Type 0 where
  pub count : ℕ
  pub last : State
  pub moves : AreMoves setting number count state last
  pub shows : ShowsState setting last new

abbrev pub MovesOn : ℕ → WorldData → WorldData → Type 0
MovesOn number old new = (setting : Setting) (state : State) → ShowsState setting state old → IsMovedOn setting state number new

-- an outcome is the machine's, of each state that the world shows, where all sessions are at their end
abbrev pub Tells : WorldData → Outcome → Type 0
Tells world outcome = (setting : Setting) (state : State) → ShowsState setting state world → are_done world.sessions ≡ true → outcome ≡ outcome_of setting state
