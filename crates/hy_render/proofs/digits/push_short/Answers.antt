use Rattle.hy_render.proofs.Decimals.{pushed_one, pushed_two, pushed_three, pushed_four}
use Rattle.hy_render.proofs.digits.push_short.Goals as goal

pub returns-then-number-lt10 : goal.returns-then-number-lt10
returns-then-number-lt10 c =
    pushed_one c.args.out.now.items _ c.args.number _ c.if-number-lt10.true c.digit.ensures c.push_reserved.ensures.items

pub returns-then-number-lt100 : goal.returns-then-number-lt100
returns-then-number-lt100 c = pushed_two c.args.out.now.items _ c.args.number c.if-number-lt10.false c.if-number-lt100.true c.push_pair.ensures.items

pub returns-then-number-lt1000 : goal.returns-then-number-lt1000
returns-then-number-lt1000 c =
    pushed_three c.args.out.now.items _ _ c.args.number _ c.if-number-lt100.false c.if-number-lt1000.true c.digit-then-number-lt1000.ensures
    c.push_reserved-then-number-lt1000.ensures.items c.push_pair-then-number-lt1000.ensures.items

pub returns-else-number-lt1000 : goal.returns-else-number-lt1000
returns-else-number-lt1000 c =
    pushed_four c.args.out.now.items _ _ c.args.number c.if-number-lt1000.false c.requires.small
    c.push_pair-else-number-lt1000.ensures.items c.push_pair-else-number-lt1000-2.ensures.items
