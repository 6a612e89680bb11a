use Rattle.hy_refinement.proofs.FramesTurns.{pruned_shown}
use Rattle.hy_refinement.proofs.visits.pruned_chunks_show.Goals as goal

pub returns : goal.returns
returns c = pruned_shown c.pruning_shows_nothing.ensures
