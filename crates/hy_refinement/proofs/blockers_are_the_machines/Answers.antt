use Rattle.hy_refinement.proofs.Blockers.{blockers_are}
use Rattle.hy_refinement.proofs.blockers_are_the_machines.Goals as goal

pub returns : goal.returns
returns c = blockers_are
