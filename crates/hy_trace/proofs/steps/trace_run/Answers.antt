use Rattle.hy_trace.proofs.Loops.{run_on}
use Rattle.hy_trace.proofs.steps.trace_run.Goals as goal

pub returns : goal.returns
returns c =
    run_on c.trace_rounds.result c.args.names.now c.args.schedule.now c.args.world.now c.trace_items.new.world c.trace_rounds.new.world
    c.args.out.now.items (c.trace_items.new.count, c.trace_items.new.out.items) (c.trace_rounds.new.count, c.trace_rounds.new.out.items) c.requires
    c.in_ok-trace_items.ensures c.trace_rounds.ensures
