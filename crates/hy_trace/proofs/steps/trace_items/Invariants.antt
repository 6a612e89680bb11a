use Rattle.std.proofs.Common.{drop}
use Rattle.hy_trace.proofs.Ahead.{Ahead}
use Rattle.hy_trace.proofs.Loops.{all_items}
use Rattle.hy_trace.proofs.steps.trace_items.Given as goal

abbrev pub invariant-loop-item : goal.invariant-loop-item
invariant-loop-item l = record {
  ahead : Ahead l.names (all_items (drop l.item-index l.items)) (all_items l.items) l.initial.world l.world (l.initial.count, l.initial.out.items)
      (l.count, l.out.items);
}
