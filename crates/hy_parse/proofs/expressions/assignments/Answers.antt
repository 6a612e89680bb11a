use Rattle.std.proofs.lemmas.Result.{err_from_is_err_and}
use Rattle.std.proofs.lemmas.List.{map_push}
use Rattle.hy_ast.specs.declared.SetClause.{SetClause}
use Rattle.std.proofs.Common.{List, map, ap, ◌∙◌}
use Rattle.hy_ast.specs.Trees.{set_clause_of}
use Rattle.hy_token.specs.declared.Sign.TheVariants.{Comma}
use Rattle.hy_parse.specs.Reading.{sign, span_of, set_clause_at}
use Rattle.hy_parse.proofs.Loops.{stops, fails, goes_on, ends}
use Rattle.hy_parse.proofs.expressions.assignments.Goals as goal

pub returns-in_default : goal.returns-in_default
returns-in_default c = stops (span_of (sign Comma)) _ set_clause_at _ (map set_clause_of c.loop.sets) c.loop.rest.now _ c.in_default.ensures c.loop.invariant

pub returns-in_err-set : goal.returns-in_err-set
returns-in_err-set c =
    let p = err_from_is_err_and c.from_residual-in_err-set.result c.from_residual-in_err-set.ensures.1 in
    rw (p.1, p.2) (fails (span_of (sign Comma)) _ set_clause_at c.in_err-set.field-0.0 _ c.loop.counter (map set_clause_of c.loop.sets) c.loop.rest.now c.in-Some.behind.now c.in-Some.field-0-0 _ c.loop-test.true c.in-Some.ensures c.in_err-set.ensures c.loop.invariant)

pub loop-preserved : goal.loop-preserved
loop-preserved c = goes_on (span_of (sign Comma)) _ set_clause_at _ c.loop.counter (map set_clause_of c.loop.sets) _ c.loop.rest.now c.in-Some.behind.now c.in_ok-set.behind.now c.in-Some.field-0-0 (set_clause_of c.in_ok-set.set) _ c.loop-test.true c.in-Some.ensures c.in_ok-set.ensures (ap (λ (sets : List SetClause). map set_clause_of sets) c.in_ok-push-2.ensures.ok ∙ map_push set_clause_of c.loop.sets c.in_ok-set.set) c.loop.invariant

pub returns : goal.returns
returns c = ends (span_of (sign Comma)) _ set_clause_at _ c.loop.counter (map set_clause_of c.loop.sets) c.loop.rest.now _ c.loop-test.false c.loop.invariant
