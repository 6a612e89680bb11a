use Rattle.hy_cases.proofs.Readings.{any_keys_fail}
use Rattle.hy_cases.proofs.neighbours.keys_are_columns.Goals as goal

pub returns : goal.returns
returns c = any_keys_fail
