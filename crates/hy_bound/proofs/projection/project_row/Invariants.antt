use Rattle.std.proofs.Common.{◌≡◌, ◌++◌, drop}
use Rattle.hy_bound.specs.Projection.{projected, projected_from}
use Rattle.hy_bound.proofs.projection.project_row.Given as goal

-- what is kept so far and of the rest is the whole
abbrev pub invariant-loop-column : goal.invariant-loop-column
invariant-loop-column l = l.kept.items ++ projected_from l.columns l.column (drop l.column l.row) ≡ projected l.columns l.row
