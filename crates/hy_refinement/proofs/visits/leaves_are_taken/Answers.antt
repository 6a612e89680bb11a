use Rattle.hy_refinement.proofs.Leaves.{leaves_are}
use Rattle.hy_refinement.proofs.visits.leaves_are_taken.Goals as goal

pub returns : goal.returns
returns c = leaves_are c.visited_chunks_show.ensures
