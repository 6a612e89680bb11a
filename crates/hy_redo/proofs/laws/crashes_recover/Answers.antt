use Rattle.hy_redo.proofs.Outcomes.{logs_recover, crashes_recover}
use Rattle.hy_redo.proofs.laws.crashes_recover.Goals as goal

pub returns-clause-logs : goal.returns-clause-logs
returns-clause-logs c = logs_recover

pub returns-clause-crashes : goal.returns-clause-crashes
returns-clause-crashes c = crashes_recover
