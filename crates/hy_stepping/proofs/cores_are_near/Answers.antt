use Rattle.hy_stepping.proofs.CoresNear.{cores_near}
use Rattle.hy_stepping.proofs.cores_are_near.Goals as goal

pub returns : goal.returns
returns c = cores_near c.reached_states_are_kept.ensures
