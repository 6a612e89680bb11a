use Rattle.std.proofs.Common.{◌≡◌, take, map}
use Rattle.hy_given.specs.Cells.{cell_value}
use Rattle.hy_given.proofs.row.Given as goal

abbrev pub invariant-loop-number : goal.invariant-loop-number
invariant-loop-number l = l.values ≡ map cell_value (take l.number-index l.cells)
