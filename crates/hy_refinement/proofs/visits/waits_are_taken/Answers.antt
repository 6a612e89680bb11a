use Rattle.hy_refinement.proofs.FramesTurns.{waits_taken}
use Rattle.hy_refinement.proofs.visits.waits_are_taken.Goals as goal

pub returns : goal.returns
returns c = waits_taken
