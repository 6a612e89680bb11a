use Rattle.hy_cases.proofs.Savepoints.{wrong_savepoints}
use Rattle.hy_cases.proofs.wrong_savepoints_are_refused.Goals as goal

pub returns : goal.returns
returns c = wrong_savepoints
