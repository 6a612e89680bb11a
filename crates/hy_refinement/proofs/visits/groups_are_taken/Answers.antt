use Rattle.hy_refinement.proofs.FramesGroups.{groups}
use Rattle.hy_refinement.proofs.visits.groups_are_taken.Goals as goal

pub returns : goal.returns
returns c = groups c.own_steps_show.ensures c.gathered_groups_answer.ensures
