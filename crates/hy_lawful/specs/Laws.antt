-- That every outcome that the machine gives of a script that fits is serializable.
use Rattle.std.specs.Prelude.{◌≡◌, List, ◌*◌, ◌<◌, true}
use Rattle.hy_bound.specs.Fits.{Fits}
use Rattle.hy_machine.specs.declared.Setting.{Setting}
use Rattle.hy_machine.specs.States.{State}
use Rattle.hy_bound.specs.declared.schedule.Item.{Item}
use Rattle.hy_machine.specs.Runs.{IsReached, all_ended_from, run_of}
use Rattle.hy_machine.specs.Outcomes.{outcome_of}
use Rattle.hy_lawful.specs.Serial.{IsSerial}

-- whatever the steps after which every session has ended, a script that fits, of tables that have chunks, has given what its
-- transactions give alone
abbrev pub SerialEnds : Type 0
SerialEnds = (setting : Setting) (state : State) → IsReached setting state → all_ended_from setting 0 state.sessions ≡ true
    → 0 < setting.chunks → Fits setting.shapes (setting.chunks * setting.rows) setting.first setting.programs → IsSerial setting (outcome_of setting state)

-- whatever the schedule, it gives what its transactions give alone
abbrev pub SerialRuns : Type 0
SerialRuns = (setting : Setting) (schedule : List Item) → 0 < setting.chunks
    → Fits setting.shapes (setting.chunks * setting.rows) setting.first setting.programs → IsSerial setting (outcome_of setting (run_of setting schedule))
