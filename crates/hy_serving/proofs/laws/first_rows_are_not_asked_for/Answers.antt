use Rattle.hy_serving.proofs.Rows.{same}
use Rattle.hy_serving.proofs.laws.first_rows_are_not_asked_for.Goals as goal

pub returns : goal.returns
returns c = same
