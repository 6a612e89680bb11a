use Rattle.hy_lawful.proofs.EffectRows.{rows_are_followed}
use Rattle.hy_lawful.proofs.states.rows_are_followed.Goals as goal

pub returns : goal.returns
returns c = rows_are_followed
