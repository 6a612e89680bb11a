use Rattle.hy_growing.proofs.Awaited.{any_items_fail}
use Rattle.hy_growing.proofs.turns_must_be_answered.Goals as goal

pub returns : goal.returns
returns c = any_items_fail
