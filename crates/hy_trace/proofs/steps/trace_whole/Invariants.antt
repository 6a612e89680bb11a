use Rattle.hy_trace.proofs.Ahead.{Ahead}
use Rattle.hy_trace.proofs.Loops.{whole, whole_left}
use Rattle.hy_trace.proofs.steps.trace_whole.Given as goal

abbrev pub invariant-loop-turn : goal.invariant-loop-turn
invariant-loop-turn l = record {
  ahead : Ahead l.names (whole_left l._turn l.number) (whole l.number) l.initial.world l.world (l.initial.count, l.initial.out.items) (l.count, l.out.items);
}
