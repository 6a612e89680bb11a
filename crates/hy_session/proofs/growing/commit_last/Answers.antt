use Rattle.std.proofs.Common.{◌≡◌, arith, suc, ◌-◌, length}
use Rattle.std.specs.Prelude.{vec_len}
use Rattle.hy_event.specs.Lines.{committing}
use Rattle.hy_session.proofs.GrownScripts.{set_last}
use Rattle.hy_session.proofs.growing.commit_last.Goals as goal

pub returns-in-Some : goal.returns-in-Some
returns-in-Some c =
    let txns = c.args.txns.now in
    let some = c.in-Some.ensures.item.3.0 in
    let long : suc (vec_len txns - 1) ≡ length txns.items = omega (arith, txns.ok.0, some) in
    set_last committing txns.items (vec_len txns - 1) c.in-Some.txn.now long c.in-Some.ensures.value
