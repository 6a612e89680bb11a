use Rattle.hy_cases.proofs.Followed.{every_position_fails}
use Rattle.hy_cases.proofs.neighbours.inserted_rows_are_not_followed.Goals as goal

pub returns : goal.returns
returns c = every_position_fails
