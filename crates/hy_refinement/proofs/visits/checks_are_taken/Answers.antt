use Rattle.hy_refinement.proofs.FramesChecks.{checks}
use Rattle.hy_refinement.proofs.visits.checks_are_taken.Goals as goal

pub returns : goal.returns
returns c = checks c.own_steps_show.ensures
