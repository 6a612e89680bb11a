use Rattle.std.proofs.Common.{◌≡◌, ◌+◌, ◌-◌, ◌≤◌}
use Rattle.hy_gathered.specs.Columns.{columns_below, columns_from}
use Rattle.hy_gathered.proofs.sums.count_columns.Given as goal

-- those of the columns so far are counted
abbrev pub invariant-loop-column : goal.invariant-loop-column
invariant-loop-column l = record {
  counted : l.count + columns_from l.columns l.column (l.width - l.column) ≡ columns_below l.columns l.width;
  few : l.count ≤ l.column;
}
