use Rattle.hy_cases.proofs.Followed.{missing_tables_fail}
use Rattle.hy_cases.proofs.neighbours.an_insert_needs_its_table.Goals as goal

pub returns : goal.returns
returns c = missing_tables_fail
