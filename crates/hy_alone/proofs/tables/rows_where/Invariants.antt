use Rattle.std.proofs.Common.{◌≡◌, take}
use Rattle.std.specs.Prelude.{filter}
use Rattle.hy_bound.specs.Predicate.{truth_of}
use Rattle.hy_alone.proofs.tables.rows_where.Given as goal

-- those of the rows so far
abbrev pub invariant-loop-row : goal.invariant-loop-row
invariant-loop-row l = l.found ≡ filter (truth_of l.pred) (take l.row-index l.rows)
