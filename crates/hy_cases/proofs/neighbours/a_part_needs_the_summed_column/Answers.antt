use Rattle.hy_cases.proofs.Groups.{grouped_column_fails}
use Rattle.hy_cases.proofs.neighbours.a_part_needs_the_summed_column.Goals as goal

pub returns : goal.returns
returns c = grouped_column_fails
