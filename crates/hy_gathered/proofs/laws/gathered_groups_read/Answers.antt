use Rattle.hy_gathered.proofs.GroupsRecorded.{gathered_recorded}
use Rattle.hy_gathered.proofs.laws.gathered_groups_read.Goals as goal

pub returns-clause-columns : goal.returns-clause-columns
returns-clause-columns c = gathered_recorded
