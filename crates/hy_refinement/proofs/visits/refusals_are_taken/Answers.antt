use Rattle.hy_refinement.proofs.FramesRefusals.{refusals}
use Rattle.hy_refinement.proofs.visits.refusals_are_taken.Goals as goal

pub returns : goal.returns
returns c = refusals c.own_steps_show.ensures c.going_on_is_taken.ensures
