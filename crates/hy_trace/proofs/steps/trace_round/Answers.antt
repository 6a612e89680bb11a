use Rattle.hy_trace.proofs.Loops.{round_ahead, round_goes_on, round_over}
use Rattle.hy_trace.proofs.steps.trace_round.Goals as goal

pub loop-number-init : goal.loop-number-init
loop-number-init c = record {
  ahead = round_ahead c.reached_states_are_kept.ensures c.args.names.now c.session_count-number-end.result c.args.world.now
      (c.args.count.now, c.args.out.now.items) c.session_count-number-end.ensures;
}

pub loop-number-preserved : goal.loop-number-preserved
loop-number-preserved c = record {
  ahead = round_goes_on c.args.names.now c.session_count-number-end.result c.loop-number.number c.args.world.now c.loop-number.world
      c.trace_whole.new.world (c.args.count.now, c.args.out.now.items) (c.loop-number.count, c.loop-number.out.items)
      (c.trace_whole.new.count, c.trace_whole.new.out.items) c.loop-number-test.true c.loop-number.invariant.ahead c.in_ok-trace_whole.ensures;
}

pub returns : goal.returns
returns c =
    round_over c.args.names.now c.session_count-number-end.result c.loop-number.number c.args.world.now c.loop-number.world
    (c.args.count.now, c.args.out.now.items) (c.loop-number.count, c.loop-number.out.items) c.loop-number-test.false c.loop-number.invariant.ahead
