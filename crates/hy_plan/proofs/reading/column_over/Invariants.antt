use Rattle.std.proofs.Common.{◌≡◌, take, map}
use Rattle.hy_bound.specs.Predicate.{column_of}
use Rattle.hy_plan.proofs.reading.column_over.Given as goal

abbrev pub invariant-loop-row : goal.invariant-loop-row
invariant-loop-row l = l.values.items ≡ map (λ row. column_of row l.column) (take l.row-index l.rows)
