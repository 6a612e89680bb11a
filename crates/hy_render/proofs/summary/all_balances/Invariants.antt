use Rattle.std.proofs.Common.{◌≡◌, ◌+ℤ◌, drop}
use Rattle.hy_render.specs.Summary.{balances}
use Rattle.hy_render.proofs.summary.all_balances.Given as goal

-- the sum so far and that of the rest are the whole
abbrev pub invariant-loop-rows : goal.invariant-loop-rows
invariant-loop-rows l = l.sum +ℤ balances (drop l.rows-index l.tables) ≡ balances l.tables
