use Rattle.hy_cases.proofs.Runs.{taken_back_fails}
use Rattle.hy_cases.proofs.neighbours.positions_taken_back_must_not_differ.Goals as goal

pub returns : goal.returns
returns c = taken_back_fails
