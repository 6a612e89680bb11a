use Rattle.std.proofs.Common.{◌*◌}
use Rattle.hy_world.specs.Openings.{AreLaid}
use Rattle.hy_world.proofs.opening.all_chunks.Given as goal

abbrev pub invariant-loop-table : goal.invariant-loop-table
invariant-loop-table l = AreLaid l.setting l.kinds (l.table * l.setting.chunks) l.chunks.items
