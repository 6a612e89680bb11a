use Rattle.std.proofs.Common.{◌≡◌, take, map}
use Rattle.hy_given.specs.Cells.{cell_value}
use Rattle.hy_given.proofs.pairs.Given as goal

abbrev pub invariant-loop-two : goal.invariant-loop-two
invariant-loop-two l = l.rows ≡ map (map cell_value) (take l.two-index l.cells)
