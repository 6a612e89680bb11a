use Rattle.std.proofs.Common.{◌≡◌, ◌-◌}
use Rattle.hy_log_record.specs.Reading.{changes_at}
use Rattle.hy_log_record.proofs.Loops.{with_front}
use Rattle.hy_log_record.proofs.reading.read_changes.Given as goal

abbrev pub invariant-loop : goal.invariant-loop
invariant-loop l = with_front l.changes.items (changes_at l.tables (l.count - l.counter) l.rest) ≡ changes_at l.tables l.count l.bytes
