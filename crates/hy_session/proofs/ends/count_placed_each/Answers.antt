use Rattle.std.proofs.Common.{arith, ℕ}
use Rattle.std.proofs.lemmas.Grind.{common_steps}
use Rattle.hy_event.specs.Ended.{placed_in}
use Rattle.hy_session.proofs.RangeSeeks.{mapped_more}
use Rattle.hy_session.proofs.ends.count_placed_each.Goals as goal

pub loop-table-preserved : goal.loop-table-preserved
loop-table-preserved c =
    let step = mapped_more (λ (table : ℕ). placed_in table c.args.statements.now c.args.took.now) c.loop-table.table c.args.tables c.loop-table-test.true in
    let pushed = c.push_reserved.ensures in
    let before = c.loop-table.invariant in
    record {
      counted = grind (arith, common_steps, step, c.count_placed.ensures, pushed.items, before.counted);
      many = omega (arith, pushed.len, before.many);
      room = omega (arith, pushed.capacity, before.room);
    }
