use Rattle.hy_cases.proofs.Writes.{wrong_writes, wrong_changes}
use Rattle.hy_cases.proofs.wrong_writes_are_refused.Goals as goal

pub returns-clause-writes : goal.returns-clause-writes
returns-clause-writes c = wrong_writes

pub returns-clause-changes : goal.returns-clause-changes
returns-clause-changes c = wrong_changes
