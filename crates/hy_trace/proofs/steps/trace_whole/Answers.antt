use Rattle.std.proofs.Common.{◌≡◌, true, false, arith, rules, tests}
use Rattle.std.proofs.lemmas.Grind.{common_steps}
use Rattle.hy_machine.specs.Runs.{is_moved}
use Rattle.hy_trace.specs.Traced.{is_over_in}
use Rattle.hy_trace.proofs.Loops.{whole_ahead, whole_ended, whole_goes_on, whole_stops, whole_over}
use Rattle.hy_trace.proofs.steps.trace_whole.Goals as goal

pub loop-turn-init : goal.loop-turn-init
loop-turn-init c = record {
  ahead = whole_ahead c.runs_are_steps.ensures.falls c.bounds_are_enough.ensures c.args.names.now c.args.number c.args.world.now
      (c.args.count.now, c.args.out.now.items);
}

pub returns-then-is_over : goal.returns-then-is_over
returns-then-is_over c =
    let over : is_over_in c.loop-turn.world c.args.number ≡ true = first_of (cc, search (rules, tests)) in
    whole_ended c.sessions_stand.ensures c.reached_states_are_kept.ensures c.args.names.now c.args.number c.loop-turn._turn c.args.world.now c.loop-turn.world
    (c.args.count.now, c.args.out.now.items) (c.loop-turn.count, c.loop-turn.out.items) over c.loop-turn.invariant.ahead

pub returns-then-not-has_moved : goal.returns-then-not-has_moved
returns-then-not-has_moved c =
    let left : is_over_in c.loop-turn.world c.args.number ≡ false = first_of (cc, search (rules, tests)) in
    let stays : is_moved c.in_ok-stepped.stepped ≡ false = first_of (cc, grind (arith, common_steps), search (rules, tests)) in
    whole_stops c.sessions_stand.ensures c.reached_states_are_kept.ensures c.args.names.now c.args.number c.loop-turn._turn c.in_ok-stepped.stepped
    c.args.world.now c.loop-turn.world c.trace_step.new.world (c.args.count.now, c.args.out.now.items) (c.loop-turn.count, c.loop-turn.out.items)
    (c.trace_step.new.count, c.trace_step.new.out.items) c.loop-turn-test.true left stays c.loop-turn.invariant.ahead c.in_ok-stepped.ensures

pub loop-turn-preserved : goal.loop-turn-preserved
loop-turn-preserved c =
    let left : is_over_in c.loop-turn.world c.args.number ≡ false = first_of (cc, search (rules, tests)) in
    let moved : is_moved c.in_ok-stepped.stepped ≡ true = first_of (cc, grind (arith, common_steps), search (rules, tests)) in
    record {
      ahead = whole_goes_on c.sessions_stand.ensures c.reached_states_are_kept.ensures c.args.names.now c.args.number c.loop-turn._turn
          c.in_ok-stepped.stepped c.args.world.now c.loop-turn.world c.trace_step.new.world (c.args.count.now, c.args.out.now.items)
          (c.loop-turn.count, c.loop-turn.out.items) (c.trace_step.new.count, c.trace_step.new.out.items) c.loop-turn-test.true left moved
          c.loop-turn.invariant.ahead c.in_ok-stepped.ensures;
    }

pub returns : goal.returns
returns c =
    whole_over c.args.names.now c.args.number c.loop-turn._turn c.args.world.now c.loop-turn.world (c.args.count.now, c.args.out.now.items)
    (c.loop-turn.count, c.loop-turn.out.items) c.loop-turn-test.false c.loop-turn.invariant.ahead
