use Rattle.hy_render.proofs.Decimals.{pushed_pair}
use Rattle.hy_render.proofs.digits.push_pair.Goals as goal

pub returns-clause-items : goal.returns-clause-items
returns-clause-items c =
    pushed_pair c.args.out.now.items _ _ c.args.number _ _ c.tens.ensures c.ones.ensures c.push_reserved.ensures.items c.push_reserved-2.ensures.items
