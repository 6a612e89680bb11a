use Rattle.hy_refinement.proofs.Since.{chunks_since_are}
use Rattle.hy_refinement.proofs.visits.chunks_since_are_the_machines.Goals as goal

pub returns : goal.returns
returns c = chunks_since_are
