use Rattle.std.proofs.Common.{◌≡◌, ◌≤◌, drop, length}
use Rattle.hy_value.specs.Order.{row_cmp}
use Rattle.hy_value.proofs.row_buffer.RowBuffer.compare.Given as goal

-- the values so far are equal
abbrev pub invariant-loop-column : goal.invariant-loop-column
invariant-loop-column l = record {
  same : row_cmp l.self.values l.other.values ≡ row_cmp (drop l.column l.self.values) (drop l.column l.other.values);
  within : l.column ≤ length l.other.values;
}
