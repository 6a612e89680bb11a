use Rattle.hy_redo.proofs.Outcomes.{one_outcome}
use Rattle.hy_redo.proofs.laws.recovery_is_one.Goals as goal

pub returns : goal.returns
returns c = one_outcome c.bodies_are_one.ensures.records
