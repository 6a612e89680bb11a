use Rattle.std.proofs.Common.{◌≡◌}
use Rattle.hy_measured.proofs.table.total.Given as goal

-- balances alone are gathered
abbrev pub invariant-loop-chunk : goal.invariant-loop-chunk
invariant-loop-chunk l = ◌≡◌ l.gathered.width 1
