use Rattle.hy_cases.proofs.Columns.{any_column_fails}
use Rattle.hy_cases.proofs.neighbours.a_part_has_few_columns.Goals as goal

pub returns : goal.returns
returns c = any_column_fails
