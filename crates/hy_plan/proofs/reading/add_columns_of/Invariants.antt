use Rattle.std.proofs.Common.{◌≡◌, ◌++◌, map}
use Rattle.std.specs.List.{range_with_len}
use Rattle.hy_bound.specs.Predicate.{column_of}
use Rattle.hy_plan.proofs.reading.add_columns_of.Given as goal

-- the columns so far
abbrev pub invariant-loop-column : goal.invariant-loop-column
invariant-loop-column l = l.columns.items ≡ l.fn.columns.items ++ map (λ column. map (λ row. column_of row column) l.rows) (range_with_len 0 l.column)
