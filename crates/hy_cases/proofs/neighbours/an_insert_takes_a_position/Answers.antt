use Rattle.hy_cases.proofs.Positions.{any_positions_fail, any_tables_fail}
use Rattle.hy_cases.proofs.neighbours.an_insert_takes_a_position.Goals as goal

pub returns-clause-positions : goal.returns-clause-positions
returns-clause-positions c = any_positions_fail

pub returns-clause-tables : goal.returns-clause-tables
returns-clause-tables c = any_tables_fail
