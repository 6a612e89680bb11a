use Rattle.std.proofs.Common.{◌≡◌, take}
use Rattle.hy_value.specs.Cells.{texts_in}
use Rattle.hy_value.proofs.row_buffer.RowBuffer.fill_reserved.Given as goal

-- the values so far are copied
abbrev pub invariant-loop-value : goal.invariant-loop-value
invariant-loop-value l = record {
  values : l.self.values ≡ take l.value-index l.values;
  room : l.self.room ≡ l.fn.self.room;
  texts : l.self.texts ≡ l.fn.self.texts;
  used : l.self.used ≡ texts_in (take l.value-index l.values);
}
