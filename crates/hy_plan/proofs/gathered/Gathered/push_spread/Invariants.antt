use Rattle.std.proofs.Common.{◌≡◌, ◌-◌, ◌++◌, drop}
use Rattle.hy_bound.specs.Projection.{spread, spread_from}
use Rattle.hy_plan.specs.Cells.{row_at}
use Rattle.hy_plan.proofs.gathered.Gathered.push_spread.Given as goal

-- the row so far and what is left of it are the whole
abbrev pub invariant-loop-column : goal.invariant-loop-column
invariant-loop-column l =
    l.joined ++ spread_from l.columns l.column (l.width - l.column) (drop l.used (row_at l.self-inside.columns.items l.index))
    ≡ l.fn.joined ++ spread l.columns l.width (row_at l.self-inside.columns.items l.index)
