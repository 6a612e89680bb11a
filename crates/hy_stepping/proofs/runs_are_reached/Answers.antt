use Rattle.hy_stepping.proofs.Reaching.{step_reached, moves_reached, rounds_reached}
use Rattle.hy_stepping.proofs.runs_are_reached.Goals as goal

pub returns : goal.returns
returns c = record { step = step_reached; moves = moves_reached; rounds = rounds_reached }
