use Rattle.hy_render.proofs.Decimals.{pairs_at}
use Rattle.hy_render.proofs.digits.tens.Goals as goal

pub returns : goal.returns
returns c = (pairs_at c.args.number c.requires).0
