use Rattle.hy_refinement.proofs.Openings.{opening_shown}
use Rattle.hy_refinement.proofs.the_opening_is_shown.Goals as goal

pub returns : goal.returns
returns c = opening_shown
