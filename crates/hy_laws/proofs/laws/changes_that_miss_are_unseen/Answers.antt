use Rattle.hy_laws.proofs.Unseen.{records_alike, replies_alike}
use Rattle.hy_laws.proofs.laws.changes_that_miss_are_unseen.Goals as goal

pub returns-clause-records : goal.returns-clause-records
returns-clause-records c = records_alike

pub returns-clause-replies : goal.returns-clause-replies
returns-clause-replies c = replies_alike
