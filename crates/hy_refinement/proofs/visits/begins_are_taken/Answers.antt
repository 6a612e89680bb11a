use Rattle.hy_refinement.proofs.Begins.{begins_are}
use Rattle.hy_refinement.proofs.visits.begins_are_taken.Goals as goal

pub returns : goal.returns
returns c = begins_are c.identifiers_are_apart.ensures.one
