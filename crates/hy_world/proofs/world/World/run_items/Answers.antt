use Rattle.std.proofs.Common.{◌∙◌, false}
use Rattle.hy_bound.specs.declared.schedule.Item.{Item}
use Rattle.hy_world.proofs.RunsLeft.{if_err}
use Rattle.hy_world.proofs.Loops.{items_go_on, items_break_off}
use Rattle.hy_world.proofs.Logs.{logs_then, ok_is_no_error}
use Rattle.hy_world.proofs.world.World.run_items.Goals as goal

pub returns-in_err-run_item-clause-under_way : goal.returns-in_err-run_item-clause-under_way
returns-in_err-run_item-clause-under_way g c =
    let other : Item = record { session = 0; whole = false } in
    if_err c.from_residual.result _
    (items_break_off c.args.items.now c.loop-item.item-index other c.args.self.now c.loop-item.self c.run_item.new.self c.loop-item-test.true
    c.loop-item.invariant.ahead c.in_err-run_item.ensures.under_way)

pub returns-in_err-run_item-clause-logs : goal.returns-in_err-run_item-clause-logs
returns-in_err-run_item-clause-logs g c =
    logs_then g.D.Disk.clock g.D.Disk.image_since _ _ _ _ _ _ c.loop-item.invariant.logs c.run_item.ensures.logs

pub loop-item-preserved : goal.loop-item-preserved
loop-item-preserved g c =
    let other : Item = record { session = 0; whole = false } in
    record {
      ahead = items_go_on c.args.items.now c.loop-item.item-index other c.args.self.now c.loop-item.self c.run_item.new.self c.loop-item-test.true
          c.loop-item.invariant.ahead c.in_ok-run_item.ensures.follows;
      kept = c.in_ok-run_item.ensures.kept;
      stays = c.in_ok-run_item.ensures.stays ∙ c.loop-item.invariant.stays;
      logs = logs_then g.D.Disk.clock g.D.Disk.image_since _ _ _ _ _ _ c.loop-item.invariant.logs c.run_item.ensures.logs;
      steady = c.in_ok-run_item.ensures.steady (ok_is_no_error _ _) ∙ c.loop-item.invariant.steady;
    }
