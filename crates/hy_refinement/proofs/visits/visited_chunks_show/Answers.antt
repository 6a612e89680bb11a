use Rattle.hy_refinement.proofs.FramesTurns.{chunk_shown}
use Rattle.hy_refinement.proofs.visits.visited_chunks_show.Goals as goal

pub returns : goal.returns
returns c = chunk_shown
