use Rattle.hy_refinement.proofs.Rivals.{rivals_are}
use Rattle.hy_refinement.proofs.rivals_are_the_machines.Goals as goal

pub returns : goal.returns
returns c = rivals_are
