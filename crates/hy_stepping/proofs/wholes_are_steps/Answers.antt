use Rattle.hy_stepping.proofs.EnoughSteps.{wholes}
use Rattle.hy_stepping.proofs.wholes_are_steps.Goals as goal

pub returns : goal.returns
returns c = wholes c.runs_are_steps.ensures.falls
