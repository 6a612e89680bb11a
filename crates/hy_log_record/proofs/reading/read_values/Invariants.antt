use Rattle.std.proofs.Common.{◌≡◌, drop}
use Rattle.hy_log_record.specs.Reading.{values_at}
use Rattle.hy_log_record.proofs.Loops.{with_front}
use Rattle.hy_log_record.proofs.reading.read_values.Given as goal

abbrev pub invariant-loop-kind : goal.invariant-loop-kind
invariant-loop-kind l = with_front l.values.items (values_at (drop l.kind-index l.kinds) l.rest) ≡ values_at l.kinds l.bytes
