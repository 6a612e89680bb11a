use Rattle.std.proofs.Common.{◌+◌, drop, arith}
use Rattle.std.proofs.lemmas.Grind.{common_steps}
use Rattle.hy_bind.specs.Scope.{scope_of}
use Rattle.hy_bind.specs.Statements.{joins_fault}
use Rattle.hy_bind.proofs.Firsts.{first_more}
use Rattle.hy_bind.proofs.Visible.{joins_next}
use Rattle.hy_bind.proofs.joins.ons.Goals as goal

pub loop-i-preserved : goal.loop-i-preserved
loop-i-preserved c =
    let scope = scope_of c.args.scope.now in
    let joins = c.args.joins.now in
    let i = c.loop-i.i in
    let one = c.in_ok-unfit.unfit in
    let next = joins_next scope (scope_of c.visible.result) joins i _ one (omega arith) c.visible.ensures c.in_ok-unfit.ensures.fault in
    let e = first_more c.loop-i.fault one (joins_fault scope (i + 1 + 2) (drop (i + 1) joins)) (joins_fault scope (i + 2) (drop i joins))
    (joins_fault scope 2 joins) next c.loop-i.invariant.0 in
    (cc, grind (arith, common_steps, c.visible.ensures, c.in_ok-unfit.ensures.on, c.in_ok-push.ensures.items, c.loop-i.invariant.1))
