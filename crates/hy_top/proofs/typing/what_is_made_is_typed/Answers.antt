use Rattle.hy_top.proofs.MadeTypes.{made_typed}
use Rattle.hy_top.proofs.typing.what_is_made_is_typed.Goals as goal

pub returns : goal.returns
returns c = λ seed sessions txns few short. made_typed c.what_is_bound_is_typed.ensures seed sessions txns
