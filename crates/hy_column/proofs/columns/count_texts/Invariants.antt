use Rattle.std.proofs.Common.{◌≡◌, ◌≤◌, take}
use Rattle.hy_column.specs.Cells.{texts_of}
use Rattle.hy_column.specs.Rows.{kinds_of}
use Rattle.hy_column.proofs.columns.count_texts.Given as goal

-- the columns so far are counted
abbrev pub invariant-loop-column : goal.invariant-loop-column
invariant-loop-column l = record {
  counted : l.count ≡ texts_of (kinds_of (take l.column-index l.columns));
  below : l.count ≤ l.column-index;
}
