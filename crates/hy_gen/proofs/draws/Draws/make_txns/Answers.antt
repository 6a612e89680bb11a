use Rattle.std.proofs.Common.{◌<◌, ◌≤◌, ◌∙◌, arith}
use Rattle.hy_gen.proofs.Steps.{one_more, all_there, next_txn, state_after_next, no_more_txns, state_at_end}
use Rattle.hy_gen.proofs.draws.Draws.make_txns.Goals as goal

pub loop-txn-preserved : goal.loop-txn-preserved
loop-txn-preserved c =
    let below : c.loop-txn._txn < c.args.count = omega arith in
    record {
      made = one_more c.loop-txn.txns.items _ _ _ _ c.in_ok-make_txn.field-0
          (next_txn c.args.count c.loop-txn._txn c.loop-txn.self.state _ _ below c.in_ok-make_txn.ensures.txn c.in_ok-make_txn.ensures.moved)
          c.in_ok-push.ensures.items c.loop-txn.invariant.made;
      moved = state_after_next c.args.count c.loop-txn._txn c.loop-txn.self.state _ below c.in_ok-make_txn.ensures.moved ∙ c.loop-txn.invariant.moved;
    }

pub returns-clause-txns : goal.returns-clause-txns
returns-clause-txns c =
    let ended : c.args.count ≤ c.loop-txn._txn = omega arith in
    c.from_vec.ensures ∙ all_there _ _ _ (no_more_txns c.args.count c.loop-txn._txn c.loop-txn.self.state ended) c.loop-txn.invariant.made

pub returns-clause-moved : goal.returns-clause-moved
returns-clause-moved c =
    let ended : c.args.count ≤ c.loop-txn._txn = omega arith in
    state_at_end c.args.count c.loop-txn._txn c.loop-txn.self.state ended ∙ c.loop-txn.invariant.moved
