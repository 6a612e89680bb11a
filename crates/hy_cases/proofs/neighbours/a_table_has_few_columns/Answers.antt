use Rattle.hy_cases.proofs.Unseen.{many_columns_fail}
use Rattle.hy_cases.proofs.neighbours.a_table_has_few_columns.Goals as goal

pub returns : goal.returns
returns c = many_columns_fail
