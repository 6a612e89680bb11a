use Rattle.hy_cases.proofs.Groups.{gathered_columns_fail}
use Rattle.hy_cases.proofs.neighbours.a_group_needs_the_columns_of_where.Goals as goal

pub returns : goal.returns
returns c = gathered_columns_fail
