use Rattle.std.proofs.Common.{◌≡◌}
use Rattle.hy_machine.specs.Tables.{laid_out}
use Rattle.hy_recovery.proofs.cells_of.Given as goal

abbrev pub invariant-loop-pos : goal.invariant-loop-pos
invariant-loop-pos l = l.cells ≡ laid_out l.pos l.rows
