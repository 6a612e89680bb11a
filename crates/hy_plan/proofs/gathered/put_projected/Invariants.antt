use Rattle.std.proofs.Common.{◌≡◌, take, drop}
use Rattle.hy_bound.specs.Projection.{projected, projected_from}
use Rattle.hy_plan.specs.Cells.{with_values, cells_of}
use Rattle.hy_plan.proofs.gathered.put_projected.Given as goal

-- the first values are put, and the others are those of the rest of the row
abbrev pub invariant-loop-index : goal.invariant-loop-index
invariant-loop-index l = record {
  put : l.columns.items ≡ with_values l.len (cells_of (take l.used (projected l.mask l.row))) l.fn.columns.items;
  rest : drop l.used (projected l.mask l.row) ≡ projected_from l.mask l.index (drop l.index l.row);
}
