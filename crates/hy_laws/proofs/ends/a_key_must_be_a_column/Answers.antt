use Rattle.hy_laws.proofs.Ended.{keys_outside_fail}
use Rattle.hy_laws.proofs.ends.a_key_must_be_a_column.Goals as goal

pub returns : goal.returns
returns c = keys_outside_fail
