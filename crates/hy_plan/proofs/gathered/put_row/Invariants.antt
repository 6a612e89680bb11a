use Rattle.std.proofs.Common.{◌≡◌, take}
use Rattle.hy_plan.specs.Cells.{with_values, cells_of}
use Rattle.hy_plan.proofs.gathered.put_row.Given as goal

abbrev pub invariant-loop-index : goal.invariant-loop-index
invariant-loop-index l = l.columns.items ≡ with_values l.len (cells_of (take l.index l.row)) l.fn.columns.items
