use Rattle.hy_refinement.proofs.FramesTurns.{going_on}
use Rattle.hy_refinement.proofs.visits.going_on_is_taken.Goals as goal

pub returns : goal.returns
returns c = going_on
