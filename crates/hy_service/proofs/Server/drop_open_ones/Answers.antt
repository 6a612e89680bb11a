use Rattle.std.proofs.Common.{◌≡◌, arith}
use Rattle.hy_limits.specs.declared.TheConstants.{MOST_SESSIONS}
use Rattle.hy_service.proofs.Dropping.{all_dropped, none_dropped, one_more}
use Rattle.hy_service.proofs.Server.drop_open_ones.Goals as goal

pub loop-number-init : goal.loop-number-init
loop-number-init c = λ service sound knows. none_dropped c.args.self.now.options service _ _ knows.shows

pub loop-number-preserved : goal.loop-number-preserved
loop-number-preserved c = λ service sound knows.
    let here = c.args.self.now in
    one_more here.options service here.desk here.names c.loop-number.number _ _ _ _ _ _ sound knows c.loop-number-test.true
    c.in_ok-drop_if_open.ensures.follows c.in_ok-drop_if_open.ensures.told c.in_ok-drop_if_open.ensures.kept (c.loop-number.invariant service sound knows)

pub returns : goal.returns
returns c = λ service sound knows.
    let last : c.loop-number.number ≡ MOST_SESSIONS = omega arith in
    all_dropped c.args.self.now.options service c.loop-number.number _ _ _ last (c.loop-number.invariant service sound knows)
