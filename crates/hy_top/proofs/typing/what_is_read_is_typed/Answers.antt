use Rattle.hy_top.proofs.ReadTypes.{bound_typed}
use Rattle.hy_top.proofs.typing.what_is_read_is_typed.Goals as goal

pub returns : goal.returns
returns c = λ bytes options script reads. bound_typed c.what_is_bound_is_typed.ensures bytes script (c.what_is_read_is_bound.ensures bytes options script reads)
