use Rattle.std.proofs.Common.{◌≡◌, take, length}
use Rattle.hy_column.specs.Rows.{row_of}
use Rattle.hy_column.proofs.columns.Columns.read.Given as goal

-- the row is read as far as the column
abbrev pub invariant-loop-column : goal.invariant-loop-column
invariant-loop-column l = record {
  done : take l.column l.row ≡ take l.column (row_of l.self-inside.columns.items l.place);
  size : length l.row ≡ length l.fn.row;
}
