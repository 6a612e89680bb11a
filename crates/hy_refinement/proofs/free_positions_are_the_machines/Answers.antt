use Rattle.hy_refinement.proofs.Frees.{free_is}
use Rattle.hy_refinement.proofs.free_positions_are_the_machines.Goals as goal

pub returns : goal.returns
returns c = free_is
