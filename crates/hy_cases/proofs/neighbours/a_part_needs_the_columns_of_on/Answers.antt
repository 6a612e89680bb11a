use Rattle.hy_cases.proofs.Plans.{shown_columns_fail}
use Rattle.hy_cases.proofs.neighbours.a_part_needs_the_columns_of_on.Goals as goal

pub returns : goal.returns
returns c = shown_columns_fail
