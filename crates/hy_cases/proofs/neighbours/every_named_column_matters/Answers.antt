use Rattle.hy_cases.proofs.Columns.{all_but_one_fail}
use Rattle.hy_cases.proofs.neighbours.every_named_column_matters.Goals as goal

pub returns : goal.returns
returns c = all_but_one_fail
