use Rattle.hy_cases.proofs.Runs.{own_positions_fail}
use Rattle.hy_cases.proofs.neighbours.own_positions_must_not_differ.Goals as goal

pub returns : goal.returns
returns c = own_positions_fail
