use Rattle.std.proofs.Common.{◌≡◌, take}
use Rattle.hy_value.proofs.row_buffer.RowBuffer.to_row.Given as goal

-- the values so far are copied
abbrev pub invariant-loop-column : goal.invariant-loop-column
invariant-loop-column l = l.values.items ≡ take l.column l.self.values
