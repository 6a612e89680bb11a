use Rattle.std.proofs.Common.{◌+◌, ◌*◌}
use Rattle.hy_world.specs.Openings.{AreLaid}
use Rattle.hy_world.proofs.opening.add_chunks.Given as goal

abbrev pub invariant-loop-number : goal.invariant-loop-number
invariant-loop-number l = AreLaid l.setting l.kinds (l.table * l.setting.chunks + l.number) l.chunks.items
