use Rattle.std.proofs.Common.{◌≡◌, take}
use Rattle.hy_value.specs.Cells.{texts_in}
use Rattle.hy_value.proofs.row_buffer.RowBuffer.copy_into.Given as goal

-- the values so far are copied
abbrev pub invariant-loop-column : goal.invariant-loop-column
invariant-loop-column l = record {
  values : l.other.values ≡ take l.column l.self.values;
  room : l.other.room ≡ l.fn.other.room;
  texts : l.other.texts ≡ l.fn.other.texts;
  used : l.other.used ≡ texts_in (take l.column l.self.values);
}
