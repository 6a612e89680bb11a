use Rattle.std.proofs.Common.{◌≡◌, ◌+◌, ◌++◌, ◌<◌, ◌^◌, ◌≤◌, List, length}
use Rattle.std.specs.List.{AllByRecursion}
use Rattle.std.specs.Vec.Iter.{into_iter_items}
use Rattle.hy_bound.specs.declared.Txn.{Txn}
use Rattle.hy_limits.specs.declared.TheConstants.{MOST_TXNS}
use Rattle.hy_world.specs.Openings.{sessions_from}
use Rattle.hy_world.proofs.opening.all_sessions.Given as goal

abbrev pub invariant-loop-program : goal.invariant-loop-program
invariant-loop-program l = record {
  sessions : l.sessions.items ++ sessions_from l.shapes l.layout l.prunes l.number (into_iter_items l.program-iterator)
      ≡ sessions_from l.shapes l.layout l.prunes 0 l.fn.programs;
  few : AllByRecursion (λ (program : List Txn). length program ≤ MOST_TXNS) (into_iter_items l.program-iterator);
  fits : l.number + length (into_iter_items l.program-iterator) < 2 ^ 32;
}
