use Rattle.std.proofs.Common.{◌≡◌, length}
use Rattle.hy_plan.proofs.gathered.Gathered.new.Given as goal

abbrev pub invariant-loop-column : goal.invariant-loop-column
invariant-loop-column l = length l.columns.items ≡ l._column
