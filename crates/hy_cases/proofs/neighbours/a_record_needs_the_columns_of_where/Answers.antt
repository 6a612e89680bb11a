use Rattle.hy_cases.proofs.Shown.{columns_fail, replies_fail}
use Rattle.hy_cases.proofs.neighbours.a_record_needs_the_columns_of_where.Goals as goal

pub returns-clause-shown : goal.returns-clause-shown
returns-clause-shown c = columns_fail

pub returns-clause-replies : goal.returns-clause-replies
returns-clause-replies c = replies_fail
