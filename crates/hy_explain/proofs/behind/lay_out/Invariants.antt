use Rattle.std.proofs.Common.{◌≡◌}
use Rattle.hy_machine.specs.Tables.{laid_out}
use Rattle.hy_explain.proofs.behind.lay_out.Given as goal

-- the positions so far
abbrev pub invariant-loop-pos : goal.invariant-loop-pos
invariant-loop-pos l = l.cells ≡ laid_out l.pos l.rows
