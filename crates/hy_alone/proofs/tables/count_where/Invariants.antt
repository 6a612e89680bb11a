use Rattle.std.proofs.Common.{◌≡◌, take}
use Rattle.std.specs.Prelude.{count_by}
use Rattle.hy_bound.specs.Predicate.{truth_of}
use Rattle.hy_alone.proofs.tables.count_where.Given as goal

-- of the rows so far
abbrev pub invariant-loop-row : goal.invariant-loop-row
invariant-loop-row l = l.count ≡ count_by (truth_of l.pred) (take l.row-index l.rows)
