use Rattle.hy_trace.proofs.Ahead.{Ahead}
use Rattle.hy_trace.proofs.Loops.{all_rounds, rounds_left}
use Rattle.hy_trace.proofs.steps.trace_rounds.Given as goal

abbrev pub invariant-loop-round : goal.invariant-loop-round
invariant-loop-round l = record {
  ahead : Ahead l.names (rounds_left l._round) all_rounds l.initial.world l.world (l.initial.count, l.initial.out.items) (l.count, l.out.items);
}
