use Rattle.std.proofs.Common.{◌≡◌, ◌++◌, map}
use Rattle.std.specs.List.{AllByRecursion}
use Rattle.std.specs.Vec.Iter.{into_iter_items}
use Rattle.hy_world.specs.Grouped.{shared_in}
use Rattle.hy_world.specs.LoggedRuns.{IsNoLog}
use Rattle.hy_world.proofs.logged_threads.parts_before.Given as goal

-- the parts that are left are there without a log too
abbrev pub invariant-loop-part : goal.invariant-loop-part
invariant-loop-part g l =
    (l.all.items ++ map shared_in (into_iter_items l.part-iterator) ≡ map shared_in l.fn.parts.items)
    × AllByRecursion IsNoLog (into_iter_items l.part-iterator)
