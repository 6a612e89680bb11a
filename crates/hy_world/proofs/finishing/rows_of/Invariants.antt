use Rattle.std.proofs.Common.{◌≡◌, map, take}
use Rattle.hy_bound.specs.Projection.{spread}
use Rattle.hy_world.specs.Finished.{every_column}
use Rattle.hy_world.proofs.finishing.rows_of.Given as goal

abbrev pub invariant-loop-index : goal.invariant-loop-index
invariant-loop-index l = l.rows.items ≡ map (spread every_column l.width) (take l.index l.gathered.rows)
