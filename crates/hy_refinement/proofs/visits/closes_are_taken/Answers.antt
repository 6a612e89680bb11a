use Rattle.hy_refinement.proofs.Closes.{closes_are}
use Rattle.hy_refinement.proofs.visits.closes_are_taken.Goals as goal

pub returns : goal.returns
returns c = closes_are
