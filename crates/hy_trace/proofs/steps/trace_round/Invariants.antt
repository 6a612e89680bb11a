use Rattle.hy_trace.proofs.Ahead.{Ahead}
use Rattle.hy_trace.proofs.Loops.{a_round, round_left}
use Rattle.hy_trace.proofs.steps.trace_round.Given as goal

abbrev pub invariant-loop-number : goal.invariant-loop-number
invariant-loop-number l = record {
  ahead : Ahead l.names (round_left l.number-end l.number) a_round l.initial.world l.world (l.initial.count, l.initial.out.items) (l.count, l.out.items);
}
