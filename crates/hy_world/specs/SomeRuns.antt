-- What a run may come to when the order of its steps is left open.
use Rattle.std.specs.Prelude.{◌≡◌, List, true}
use Rattle.hy_machine.specs.declared.Setting.{Setting}
use Rattle.hy_machine.specs.States.{State}
use Rattle.hy_machine.specs.Outcomes.{outcome_of}
use Rattle.hy_bound.specs.declared.schedule.Item.{Item}
use Rattle.hy_machine.specs.Runs.{IsReached, all_ended_from, run_of}
use Rattle.hy_render.specs.declared.Outcome.{Outcome}
use Rattle.hy_world.specs.Worlds.{WorldData, ShowsState}

-- the outcome of a state that the machine comes to by some steps of its sessions, and in which every session has ended
pub record IsSomeRun (setting : Setting) (outcome : Outcome) : Type 0 where
  pub state : State
  pub reached : IsReached setting state
  pub ended : all_ended_from setting 0 state.sessions ≡ true
  pub outcome_is : outcome ≡ outcome_of setting state

-- the world shows what the machine comes to by some schedule: its steps, in whatever order they were taken
pub record ShowsSomeRun (setting : Setting) (world : WorldData) : Type 0 where
  pub schedule : List Item
  pub shows : ShowsState setting (run_of setting schedule) world
