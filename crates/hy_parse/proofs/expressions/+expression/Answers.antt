use Rattle.std.proofs.lemmas.Result.{err_from_is_err_and}
use Rattle.hy_ast.specs.Trees.{formula_of}
use Rattle.hy_token.specs.declared.Sign.TheVariants.{Star}
use Rattle.hy_parse.specs.Reading.{sign, span_of, addition, factor_at, term_by}
use Rattle.hy_parse.proofs.Loops.{stops, fails, goes_on, ends}
use Rattle.hy_parse.proofs.expressions.+expression.Goals as goal

pub expression-returns-in_default : goal.expression-returns-in_default
expression-returns-in_default t c = stops addition _ (term_by (factor_at c.args.levels)) _ (formula_of c.loop.left) c.loop.rest.now _ c.in_default.ensures c.loop.invariant

pub expression-returns-in_err-right : goal.expression-returns-in_err-right
expression-returns-in_err-right t c =
    let p = err_from_is_err_and c.from_residual-in_err-right.result c.from_residual-in_err-right.ensures.1 in
    rw (p.1, p.2) (fails addition _ (term_by (factor_at c.args.levels)) c.in_err-right.field-0.0 _ c.loop.counter (formula_of c.loop.left) c.loop.rest.now c.in-Some.behind.now (c.in-Some.op, c.in-Some.at) _ c.loop-test.true c.in-Some.ensures c.in_err-right.ensures c.loop.invariant)

pub expression-loop-preserved : goal.expression-loop-preserved
expression-loop-preserved t c = goes_on addition _ (term_by (factor_at c.args.levels)) _ c.loop.counter (formula_of c.loop.left) _ c.loop.rest.now c.in-Some.behind.now c.in_ok-right.behind.now (c.in-Some.op, c.in-Some.at) (formula_of c.in_ok-right.right) _ c.loop-test.true c.in-Some.ensures c.in_ok-right.ensures c.in_ok-left-2.ensures c.loop.invariant

pub expression-returns : goal.expression-returns
expression-returns t c = ends addition _ (term_by (factor_at c.args.levels)) _ c.loop.counter (formula_of c.loop.left) c.loop.rest.now _ c.loop-test.false c.loop.invariant

pub term-returns-in_default : goal.term-returns-in_default
term-returns-in_default t c = stops (span_of (sign Star)) _ (factor_at c.args.levels) _ (formula_of c.loop.left) c.loop.rest.now _ c.in_default.ensures c.loop.invariant

pub term-returns-in_err-right : goal.term-returns-in_err-right
term-returns-in_err-right t c =
    let p = err_from_is_err_and c.from_residual-in_err-right.result c.from_residual-in_err-right.ensures.1 in
    rw (p.1, p.2) (fails (span_of (sign Star)) _ (factor_at c.args.levels) c.in_err-right.field-0.0 _ c.loop.counter (formula_of c.loop.left) c.loop.rest.now c.in-Some.behind.now c.in-Some.at _ c.loop-test.true c.in-Some.ensures c.in_err-right.ensures c.loop.invariant)

pub term-loop-preserved : goal.term-loop-preserved
term-loop-preserved t c = goes_on (span_of (sign Star)) _ (factor_at c.args.levels) _ c.loop.counter (formula_of c.loop.left) _ c.loop.rest.now c.in-Some.behind.now c.in_ok-right.behind.now c.in-Some.at (formula_of c.in_ok-right.right) _ c.loop-test.true c.in-Some.ensures c.in_ok-right.ensures c.in_ok-left-2.ensures c.loop.invariant

pub term-returns : goal.term-returns
term-returns t c = ends (span_of (sign Star)) _ (factor_at c.args.levels) _ c.loop.counter (formula_of c.loop.left) c.loop.rest.now _ c.loop-test.false c.loop.invariant
