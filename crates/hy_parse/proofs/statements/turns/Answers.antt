use Rattle.std.proofs.lemmas.Result.{err_from_is_err_and}
use Rattle.std.proofs.Common.{[]}
use Rattle.hy_token.specs.declared.Sign.TheVariants.{Bang}
use Rattle.hy_token.specs.declared.Token.TheVariants.{Name}
use Rattle.hy_parse.specs.Reading.{sign, span_of, flag_at}
use Rattle.hy_parse.proofs.Loops.{stops, fails, goes_on, ends}
use Rattle.hy_parse.proofs.statements.turns.Goals as goal

pub returns-in_default : goal.returns-in_default
returns-in_default c = stops (span_of Name) _ (flag_at (sign Bang) []) _ c.loop.turns c.loop.rest.now _ c.in_default.ensures c.loop.invariant

pub returns-in_err-whole : goal.returns-in_err-whole
returns-in_err-whole c =
    let p = err_from_is_err_and c.from_residual.result c.from_residual.ensures.1 in
    rw (p.1, p.2) (fails (span_of Name) _ (flag_at (sign Bang) []) c.in_err-whole.field-0.0 _ c.loop.counter c.loop.turns c.loop.rest.now c.in-Some.behind.now c.in-Some.session _ c.loop-test.true c.in-Some.ensures c.in_err-whole.ensures c.loop.invariant)

pub loop-preserved : goal.loop-preserved
loop-preserved c = goes_on (span_of Name) _ (flag_at (sign Bang) []) _ c.loop.counter c.loop.turns _ c.loop.rest.now c.in-Some.behind.now c.in_ok-whole.behind.now c.in-Some.session c.in_ok-whole.whole _ c.loop-test.true c.in-Some.ensures c.in_ok-whole.ensures c.in_ok-push.ensures.ok c.loop.invariant

pub returns : goal.returns
returns c = ends (span_of Name) _ (flag_at (sign Bang) []) _ c.loop.counter c.loop.turns c.loop.rest.now _ c.loop-test.false c.loop.invariant
