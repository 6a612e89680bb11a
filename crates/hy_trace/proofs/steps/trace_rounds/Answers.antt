use Rattle.std.proofs.Common.{◌≡◌, true, false, rules, tests}
use Rattle.hy_stepping.specs.Outcomes.{are_done}
use Rattle.hy_trace.proofs.Loops.{rounds_ahead, rounds_go_on, rounds_stop, rounds_over}
use Rattle.hy_trace.proofs.steps.trace_rounds.Goals as goal

pub loop-round-init : goal.loop-round-init
loop-round-init c = record {
  ahead = rounds_ahead c.runs_are_steps.ensures.ends c.bounds_are_enough.ensures c.args.names.now c.args.world.now (c.args.count.now, c.args.out.now.items);
}

pub returns-then-is_done : goal.returns-then-is_done
returns-then-is_done c =
    let over : are_done c.loop-round.world.sessions ≡ true = first_of (cc, search (rules, tests)) in
    rounds_stop c.ends_are_the_machines.ensures c.args.names.now c.loop-round._round c.args.world.now c.loop-round.world
    (c.args.count.now, c.args.out.now.items) (c.loop-round.count, c.loop-round.out.items) over c.loop-round.invariant.ahead

pub loop-round-preserved : goal.loop-round-preserved
loop-round-preserved c =
    let left : are_done c.loop-round.world.sessions ≡ false = first_of (cc, search (rules, tests)) in
    record {
      ahead = rounds_go_on c.ends_are_the_machines.ensures c.args.names.now c.loop-round._round c.args.world.now c.loop-round.world
          c.trace_round.new.world (c.args.count.now, c.args.out.now.items) (c.loop-round.count, c.loop-round.out.items)
          (c.trace_round.new.count, c.trace_round.new.out.items) c.loop-round-test.true left c.loop-round.invariant.ahead c.in_ok-trace_round.ensures;
    }

pub returns : goal.returns
returns c =
    rounds_over c.args.names.now c.loop-round._round c.args.world.now c.loop-round.world (c.args.count.now, c.args.out.now.items)
    (c.loop-round.count, c.loop-round.out.items) c.loop-round-test.false c.loop-round.invariant.ahead
