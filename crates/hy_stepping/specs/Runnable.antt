-- Which settings the engine runs, and which of their states it is in.
use Rattle.std.specs.Prelude.{◌*◌, ◌^◌, ◌<◌, ◌≤◌, List}
use Rattle.hy_bound.specs.Fits.{Fits}
use Rattle.hy_event.specs.declared.SessionData.{SessionData}
use Rattle.hy_event.specs.Events.{Part}
use Rattle.hy_machine.specs.declared.Setting.{Setting}
use Rattle.hy_machine.specs.States.{State}
use Rattle.hy_machine.specs.Runs.{IsReached}
use Rattle.hy_refinement.specs.Shows.{Shows}

-- the script fits, a table has a chunk but no more than a program may ask for, a chunk has a position, and positions have
-- numbers of 32 bits
pub record IsRunnable (setting : Setting) : Type 0 where
  pub fits : Fits setting.shapes (setting.chunks * setting.rows) setting.first setting.programs
  pub some_chunk : 0 < setting.chunks
  pub few_chunks : setting.chunks ≤ 64
  pub some_row : 0 < setting.rows
  pub numbered : setting.chunks * setting.rows < 2 ^ 32

-- parts and sessions show a state that the machine comes to
pub record IsShown (setting : Setting) (state : State) (parts : List Part) (sessions : List SessionData) : Type 0 where
  pub runnable : IsRunnable setting
  pub reached : IsReached setting state
  pub shows : Shows setting state parts sessions
