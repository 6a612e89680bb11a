use Rattle.std.proofs.Common.{◌≡◌, ◌++◌}
use Rattle.std.specs.Vec.Iter.{into_iter_items}
use Rattle.hy_bound.specs.Changes.{present}
use Rattle.hy_recovery.proofs.present_rows.Given as goal

-- the rows so far, and those of what is left
abbrev pub invariant-loop-cell : goal.invariant-loop-cell
invariant-loop-cell l = l.rows.items ++ present (into_iter_items l.cell-iterator) ≡ present l.fn.cells
