use Rattle.std.proofs.Common.{◌≡◌, ◌++◌, map}
use Rattle.std.specs.Vec.Iter.{into_iter_items}
use Rattle.hy_stepping.specs.Outcomes.{told_entry}
use Rattle.hy_world.proofs.finishing.all_committed.Given as goal

abbrev pub invariant-loop-entry : goal.invariant-loop-entry
invariant-loop-entry l = l.all ++ map told_entry (into_iter_items l.entry-iterator) ≡ map told_entry l.fn.entries.items
