use Rattle.std.proofs.Common.{◌≡◌, ◌++◌}
use Rattle.std.specs.Vec.Iter.{into_iter_items}
use Rattle.hy_world.proofs.finishing.add_outcomes.Given as goal

abbrev pub invariant-loop-outcome : goal.invariant-loop-outcome
invariant-loop-outcome l = l.all ++ into_iter_items l.outcome-iterator ≡ l.fn.all ++ l.fn.done
