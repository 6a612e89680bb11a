-- That each state that the machine comes to is kept: the sentences that the engine takes of the machine alone hold of it.
use Rattle.std.specs.Prelude.{◌≡◌, length}
use Rattle.hy_machine.specs.declared.Setting.{Setting}
use Rattle.hy_machine.specs.States.{State}
use Rattle.hy_machine.specs.Runs.{IsReached}
use Rattle.hy_machine.specs.Kept.{Kept}

-- where each table has its columns and its first rows, as one of the sentences says
abbrev pub ReachedAreKept : Type 0
ReachedAreKept = (setting : Setting) (state : State) → length setting.first ≡ length setting.shapes → IsReached setting state → Kept setting state
