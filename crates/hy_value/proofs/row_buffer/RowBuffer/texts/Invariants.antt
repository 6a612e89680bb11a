use Rattle.std.proofs.Common.{◌≡◌, ◌≤◌, take}
use Rattle.hy_value.specs.Cells.{texts_in}
use Rattle.hy_value.proofs.row_buffer.RowBuffer.texts.Given as goal

-- the texts so far are counted
abbrev pub invariant-loop-column : goal.invariant-loop-column
invariant-loop-column l = record {
  counted : l.count ≡ texts_in (take l.column l.self.values);
  below : l.count ≤ l.column;
}
