use Rattle.std.proofs.lemmas.Result.{err_from_is_err_and}
use Rattle.hy_ast.specs.Trees.{test_of}
use Rattle.hy_token.specs.declared.Keyword.TheVariants.{And, Or}
use Rattle.hy_parse.specs.Reading.{word, span_of, unit_at, conjunction_by}
use Rattle.hy_parse.proofs.Loops.{stops, fails, goes_on, ends}
use Rattle.hy_parse.proofs.conditions.+condition.Goals as goal

pub condition-returns-in_default : goal.condition-returns-in_default
condition-returns-in_default t c = stops (span_of (word Or)) _ (conjunction_by (unit_at c.args.levels)) _ (test_of c.loop.left) c.loop.rest.now _ c.in_default.ensures c.loop.invariant

pub condition-returns-in_err-right : goal.condition-returns-in_err-right
condition-returns-in_err-right t c =
    let p = err_from_is_err_and c.from_residual-in_err-right.result c.from_residual-in_err-right.ensures.1 in
    rw (p.1, p.2) (fails (span_of (word Or)) _ (conjunction_by (unit_at c.args.levels)) c.in_err-right.field-0.0 _ c.loop.counter (test_of c.loop.left) c.loop.rest.now c.in-Some.behind.now c.in-Some.at _ c.loop-test.true c.in-Some.ensures c.in_err-right.ensures c.loop.invariant)

pub condition-loop-preserved : goal.condition-loop-preserved
condition-loop-preserved t c = goes_on (span_of (word Or)) _ (conjunction_by (unit_at c.args.levels)) _ c.loop.counter (test_of c.loop.left) _ c.loop.rest.now c.in-Some.behind.now c.in_ok-right.behind.now c.in-Some.at (test_of c.in_ok-right.right) _ c.loop-test.true c.in-Some.ensures c.in_ok-right.ensures c.in_ok-left-2.ensures c.loop.invariant

pub condition-returns : goal.condition-returns
condition-returns t c = ends (span_of (word Or)) _ (conjunction_by (unit_at c.args.levels)) _ c.loop.counter (test_of c.loop.left) c.loop.rest.now _ c.loop-test.false c.loop.invariant

pub conjunction-returns-in_default : goal.conjunction-returns-in_default
conjunction-returns-in_default t c = stops (span_of (word And)) _ (unit_at c.args.levels) _ (test_of c.loop.left) c.loop.rest.now _ c.in_default.ensures c.loop.invariant

pub conjunction-returns-in_err-right : goal.conjunction-returns-in_err-right
conjunction-returns-in_err-right t c =
    let p = err_from_is_err_and c.from_residual-in_err-right.result c.from_residual-in_err-right.ensures.1 in
    rw (p.1, p.2) (fails (span_of (word And)) _ (unit_at c.args.levels) c.in_err-right.field-0.0 _ c.loop.counter (test_of c.loop.left) c.loop.rest.now c.in-Some.behind.now c.in-Some.at _ c.loop-test.true c.in-Some.ensures c.in_err-right.ensures c.loop.invariant)

pub conjunction-loop-preserved : goal.conjunction-loop-preserved
conjunction-loop-preserved t c = goes_on (span_of (word And)) _ (unit_at c.args.levels) _ c.loop.counter (test_of c.loop.left) _ c.loop.rest.now c.in-Some.behind.now c.in_ok-right.behind.now c.in-Some.at (test_of c.in_ok-right.right) _ c.loop-test.true c.in-Some.ensures c.in_ok-right.ensures c.in_ok-left-2.ensures c.loop.invariant

pub conjunction-returns : goal.conjunction-returns
conjunction-returns t c = ends (span_of (word And)) _ (unit_at c.args.levels) _ c.loop.counter (test_of c.loop.left) c.loop.rest.now _ c.loop-test.false c.loop.invariant
