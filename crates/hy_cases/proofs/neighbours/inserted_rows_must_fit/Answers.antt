use Rattle.hy_cases.proofs.Positions.{any_rows_fail, any_own_fail}
use Rattle.hy_cases.proofs.neighbours.inserted_rows_must_fit.Goals as goal

pub returns-clause-widths : goal.returns-clause-widths
returns-clause-widths c = any_rows_fail

pub returns-clause-own : goal.returns-clause-own
returns-clause-own c = any_own_fail
