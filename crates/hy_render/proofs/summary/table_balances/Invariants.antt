use Rattle.std.proofs.Common.{◌≡◌, ◌+ℤ◌, drop}
use Rattle.hy_meaning.specs.Totals.{sum_of}
use Rattle.hy_render.proofs.summary.table_balances.Given as goal

-- the sum so far and that of the rest are the whole
abbrev pub invariant-loop-row : goal.invariant-loop-row
invariant-loop-row l = l.sum +ℤ sum_of 1 (drop l.row-index l.rows) ≡ sum_of 1 l.rows
