use Rattle.hy_cases.proofs.Bags.{missing_tables_fail}
use Rattle.hy_cases.proofs.neighbours.a_missing_table_gets_no_rows.Goals as goal

pub returns : goal.returns
returns c = missing_tables_fail
