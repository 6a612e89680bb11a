use Rattle.hy_machine.specs.Runs.{run_of}
use Rattle.hy_lawful.proofs.runs_are_lawful.Goals as goal

pub returns-clause-lawful : goal.returns-clause-lawful
returns-clause-lawful c = λ setting schedule. c.ends_are_lawful.ensures.lawful setting (run_of setting schedule)
    (c.runs_are_steps.ensures.steps setting schedule) (c.runs_are_steps.ensures.ends setting schedule)

pub returns-clause-serial : goal.returns-clause-serial
returns-clause-serial c = λ setting schedule. c.ends_are_lawful.ensures.serial setting (run_of setting schedule)
    (c.runs_are_steps.ensures.steps setting schedule) (c.runs_are_steps.ensures.ends setting schedule)
