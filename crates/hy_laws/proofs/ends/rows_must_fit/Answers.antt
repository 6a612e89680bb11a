use Rattle.hy_laws.proofs.Ended.{wider_rows_fail}
use Rattle.hy_laws.proofs.ends.rows_must_fit.Goals as goal

pub returns : goal.returns
returns c = wider_rows_fail
