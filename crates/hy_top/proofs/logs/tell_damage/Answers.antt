use Rattle.std.proofs.Common.{◌∙◌, inr}
use Rattle.hy_top.proofs.Logging.{writes_so}
use Rattle.hy_top.proofs.logs.tell_damage.Goals as goal

pub returns-in-Ok-clause-writes : goal.returns-in-Ok-clause-writes
returns-in-Ok-clause-writes g c =
    inr (writes_so 7 c.write.result _ _ _ _ _ c.without_outcome.ensures.status (c.as_slice.ensures.value ∙ c.in-Ok.ensures) c.write.ensures.writes)
