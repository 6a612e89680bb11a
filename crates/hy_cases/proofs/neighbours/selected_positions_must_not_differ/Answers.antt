use Rattle.hy_cases.proofs.Positions.{selected_positions_fail}
use Rattle.hy_cases.proofs.neighbours.selected_positions_must_not_differ.Goals as goal

pub returns : goal.returns
returns c = selected_positions_fail
