-- The outcome of lines is lawful and serializable, since it is that of a run of a script that fits.
use Rattle.std.proofs.Common.{List, map, refl}
use Rattle.hy_bound.specs.declared.schedule.Item.{Item}
use Rattle.hy_growing.specs.Growing.{whole_item}
use Rattle.hy_lawful.specs.Lawful.{Lawful}
use Rattle.hy_lawful.specs.Laws.{SerialRuns}
use Rattle.hy_machine.specs.declared.Setting.{Setting}
use Rattle.hy_machine.specs.Outcomes.{outcome_of}
use Rattle.hy_machine.specs.Runs.{run_of}
use Rattle.hy_service.specs.Laws.{OutcomesAreLawful, ServicesAreSound}
use Rattle.hy_service.specs.Service.{after, setting_after}
use Rattle.hy_service.specs.Sound.{IsSound}

-- what the machine makes of a script and a schedule is lawful
abbrev pub LawfulRuns : Type 0
LawfulRuns = (setting : Setting) (schedule : List Item) → Lawful setting (outcome_of setting (run_of setting schedule))

pub outcomes_are : ServicesAreSound → LawfulRuns → SerialRuns → OutcomesAreLawful
outcomes_are sound lawful serial options lines sized =
    let here : IsSound options (after options lines) = sound options lines sized in
    let setting : Setting = setting_after options lines in
    record {
      comes_to = refl;
      lawful = lawful setting (map whole_item (after options lines).turns);
      serial = serial setting (map whole_item (after options lines).turns) here.runnable.some_chunk here.runnable.fits;
    }
