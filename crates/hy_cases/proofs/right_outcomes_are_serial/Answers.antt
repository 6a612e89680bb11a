use Rattle.hy_cases.proofs.Right.{right_outcomes}
use Rattle.hy_cases.proofs.right_outcomes_are_serial.Goals as goal

pub returns : goal.returns
returns c = right_outcomes c.runs_are_lawful.ensures.lawful c.runs_are_lawful.ensures.serial
