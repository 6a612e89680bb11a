use Rattle.std.proofs.Common.{◌≡◌, ◌++◌, drop}
use Rattle.hy_bound.specs.Changes.{present}
use Rattle.hy_explain.proofs.behind.ascending_rows.Given as goal

-- the rows so far, and those of what is left
abbrev pub invariant-loop-cell : goal.invariant-loop-cell
invariant-loop-cell l = l.rows.items ++ present (drop l.cell-index l.cells) ≡ present l.cells
