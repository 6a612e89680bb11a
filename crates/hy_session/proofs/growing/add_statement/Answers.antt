use Rattle.std.proofs.Common.{◌≡◌, arith, suc, ◌-◌, length, set, List, ap, ◌∙◌}
use Rattle.std.specs.Prelude.{vec_len}
use Rattle.hy_bound.specs.declared.Bound.{Bound}
use Rattle.hy_event.specs.Lines.{with_statement}
use Rattle.hy_session.proofs.GrownScripts.{set_last}
use Rattle.hy_session.proofs.growing.add_statement.Goals as goal

pub returns-in_ok-push-clause-ok : goal.returns-in_ok-push-clause-ok
returns-in_ok-push-clause-ok c =
    let txns = c.args.txns.now in
    let txn = c.in-Some.txn.now in
    let some = c.in-Some.ensures.item.3.0 in
    let long : suc (vec_len txns - 1) ≡ length txns.items = omega (arith, txns.ok.0, some) in
    ap (λ (statements : List Bound). set txns.items (vec_len txns - 1) (record txn { statements = statements })) c.in_ok-push.ensures.ok
    ∙ set_last (with_statement c.args.statement) txns.items (vec_len txns - 1) txn long c.in-Some.ensures.value
