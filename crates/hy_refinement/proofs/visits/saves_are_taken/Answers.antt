use Rattle.hy_refinement.proofs.Savings.{saves_are}
use Rattle.hy_refinement.proofs.visits.saves_are_taken.Goals as goal

pub returns : goal.returns
returns c = saves_are c.own_steps_show.ensures
