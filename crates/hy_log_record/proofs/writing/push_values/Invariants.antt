use Rattle.std.proofs.Common.{take}
use Rattle.hy_log_record.specs.Bytes.{value_bytes, HasValueBytes}
use Rattle.hy_log_record.proofs.PushedBytes.{Pushed}
use Rattle.hy_log_record.proofs.writing.push_values.Given as goal

abbrev pub invariant-loop-column : goal.invariant-loop-column
invariant-loop-column l = Pushed value_bytes HasValueBytes (take l.column l.row) l.fn.out.items l.out.items
