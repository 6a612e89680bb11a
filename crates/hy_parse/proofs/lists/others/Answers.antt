use Rattle.std.proofs.lemmas.Result.{err_from_is_err_and}
use Rattle.hy_parse.specs.Reading.{span_of}
use Rattle.hy_parse.proofs.Loops.{stops, fails, goes_on, ends}
use Rattle.hy_parse.proofs.lists.others.Goals as goal

pub returns-in_default : goal.returns-in_default
returns-in_default g c = stops (span_of c.args.before) _ g.T.Item.read_at _ c.loop.items c.loop.rest.now _ c.in_default.ensures c.loop.invariant

pub returns-in_err-item : goal.returns-in_err-item
returns-in_err-item g c =
    let p = err_from_is_err_and c.from_residual.result c.from_residual.ensures.1 in
    rw (p.1, p.2) (fails (span_of c.args.before) _ g.T.Item.read_at c.in_err-item.field-0.0 _ c.loop.counter c.loop.items c.loop.rest.now c.in-Some.behind.now c.in-Some.field-0-0 _ c.loop-test.true c.in-Some.ensures c.in_err-item.ensures c.loop.invariant)

pub loop-preserved : goal.loop-preserved
loop-preserved g c = goes_on (span_of c.args.before) _ g.T.Item.read_at _ c.loop.counter c.loop.items _ c.loop.rest.now c.in-Some.behind.now c.in_ok-item.behind.now c.in-Some.field-0-0 c.in_ok-item.item _ c.loop-test.true c.in-Some.ensures c.in_ok-item.ensures c.in_ok-push.ensures.ok c.loop.invariant

pub returns : goal.returns
returns g c = ends (span_of c.args.before) _ g.T.Item.read_at _ c.loop.counter c.loop.items c.loop.rest.now _ c.loop-test.false c.loop.invariant
