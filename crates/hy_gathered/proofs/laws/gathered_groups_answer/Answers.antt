use Rattle.hy_gathered.proofs.GroupsGathered.{gathered_groups}
use Rattle.hy_gathered.proofs.laws.gathered_groups_answer.Goals as goal

pub returns : goal.returns
returns c = gathered_groups
