use Rattle.std.proofs.Common.{◌≡◌, map, take}
use Rattle.hy_plan.specs.Cells.{with_values}
use Rattle.hy_plan.specs.Placed.{values_picked}
use Rattle.hy_plan.proofs.gathered.put_listed.Given as goal

abbrev pub invariant-loop-index : goal.invariant-loop-index
invariant-loop-index g l = l.columns.items ≡ with_values l.len (map (values_picked (g.S.PlacedRows.rows l.source) l.places) (take l.index l.wanted)) l.fn.columns.items
