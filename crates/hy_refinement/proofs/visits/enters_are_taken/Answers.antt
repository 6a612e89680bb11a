use Rattle.hy_refinement.proofs.Enters.{enters_are}
use Rattle.hy_refinement.proofs.visits.enters_are_taken.Goals as goal

pub returns : goal.returns
returns c = enters_are
