use Rattle.std.proofs.Common.{◌≡◌, take}
use Rattle.std.specs.Prelude.{not, filter}
use Rattle.hy_bound.specs.Predicate.{truth_of}
use Rattle.hy_alone.proofs.tables.rows_beside.Given as goal

-- those of the rows so far
abbrev pub invariant-loop-row : goal.invariant-loop-row
invariant-loop-row l = l.left ≡ filter (λ row. not (truth_of l.pred row)) (take l.row-index l.rows)
