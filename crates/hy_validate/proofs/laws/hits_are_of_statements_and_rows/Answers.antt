use Rattle.hy_validate.proofs.FirstStatements.{statements_first, rows_alone}
use Rattle.hy_validate.proofs.laws.hits_are_of_statements_and_rows.Goals as goal

pub returns : goal.returns
returns c = record { statements = statements_first; rows = rows_alone }
