use Rattle.std.proofs.Common.{false}
use Rattle.hy_bound.specs.declared.schedule.Item.{Item}
use Rattle.hy_trace.proofs.Loops.{items_ahead, items_go_on, items_over}
use Rattle.hy_trace.proofs.steps.trace_items.Goals as goal

pub loop-item-init : goal.loop-item-init
loop-item-init c = record { ahead = items_ahead c.args.names.now c.args.items.now c.args.world.now (c.args.count.now, c.args.out.now.items) }

pub loop-item-preserved : goal.loop-item-preserved
loop-item-preserved c =
    let other : Item = record { session = 0; whole = false } in
    record {
      ahead = items_go_on c.args.names.now c.args.items.now c.loop-item.item-index other c.args.world.now c.loop-item.world c.trace_item.new.world
          (c.args.count.now, c.args.out.now.items) (c.loop-item.count, c.loop-item.out.items) (c.trace_item.new.count, c.trace_item.new.out.items)
          c.loop-item-test.true c.loop-item.invariant.ahead c.in_ok-trace_item.ensures;
    }

pub returns : goal.returns
returns c =
    items_over c.args.names.now c.args.items.now c.loop-item.item-index c.args.world.now c.loop-item.world (c.args.count.now, c.args.out.now.items)
    (c.loop-item.count, c.loop-item.out.items) c.loop-item-test.false c.loop-item.invariant.ahead
