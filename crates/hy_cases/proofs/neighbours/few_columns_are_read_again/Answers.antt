use Rattle.hy_cases.proofs.Readings.{many_columns_fail}
use Rattle.hy_cases.proofs.neighbours.few_columns_are_read_again.Goals as goal

pub returns : goal.returns
returns c = many_columns_fail
