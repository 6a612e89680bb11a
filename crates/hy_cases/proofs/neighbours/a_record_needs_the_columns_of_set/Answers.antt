use Rattle.hy_cases.proofs.Columns.{where_columns_fail}
use Rattle.hy_cases.proofs.neighbours.a_record_needs_the_columns_of_set.Goals as goal

pub returns : goal.returns
returns c = where_columns_fail
