use Rattle.std.proofs.Common.{◌≡◌, drop}
use Rattle.std.specs.Prelude.{◌+ℤ◌}
use Rattle.hy_meaning.specs.Totals.{sum_of}
use Rattle.hy_alone.proofs.groups.sum.Given as goal

-- the sum so far, and that of the rows that are left
abbrev pub invariant-loop-row : goal.invariant-loop-row
invariant-loop-row l = l.sum +ℤ sum_of l.column (drop l.row-index l.rows) ≡ sum_of l.column l.rows
