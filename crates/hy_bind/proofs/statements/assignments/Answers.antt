use Rattle.std.proofs.Common.{List, Option, ◌+◌, drop, map, ap, sym, ◌∙◌, arith}
use Rattle.std.proofs.lemmas.Grind.{common_steps}
use Rattle.hy_ast.specs.declared.SetClause.{SetClause}
use Rattle.hy_ast.specs.Trees.{set_clause_of}
use Rattle.hy_bind.specs.declared.refusals.BindFault.{BindFault}
use Rattle.hy_bind.specs.Refusals.{first_of}
use Rattle.hy_bind.specs.Scope.{scope_of}
use Rattle.hy_bind.specs.Statements.{sets_fault}
use Rattle.hy_bind.proofs.Firsts.{first_more, drop_next}
use Rattle.hy_bind.proofs.statements.assignments.Goals as goal

pub loop-set-preserved : goal.loop-set-preserved
loop-set-preserved c =
    let xs = c.args.sets.now in
    let i = c.loop-set.set-index in
    let f : List SetClause → Option BindFault = λ rest. sets_fault (scope_of c.args.scope.now) (map set_clause_of rest) in
    let e = first_more c.loop-set.fault c.in_ok-unfit.unfit (f (drop (i + 1) xs)) (f (drop i xs)) (f xs)
    (ap f (drop_next xs i c.set-item.result (omega arith) c.set-item.is) ∙ ap (λ one. first_of one (f (drop (i + 1) xs))) (sym c.in_ok-unfit.ensures.fault)) c.loop-set.invariant.0 in
    (cc, grind (arith, common_steps, c.in_ok-unfit.ensures.assign, c.in_ok-push.ensures.items, c.loop-set.invariant.1))
