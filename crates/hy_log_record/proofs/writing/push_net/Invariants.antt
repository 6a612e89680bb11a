use Rattle.std.proofs.Common.{take}
use Rattle.std.specs.Prelude.{filter}
use Rattle.hy_notes.specs.Notes.{is_change}
use Rattle.hy_log_record.specs.Bytes.{change_bytes, HasChangeBytes}
use Rattle.hy_log_record.proofs.PushedBytes.{Pushed}
use Rattle.hy_log_record.proofs.writing.push_net.Given as goal

abbrev pub invariant-loop-note : goal.invariant-loop-note
invariant-loop-note l = Pushed change_bytes HasChangeBytes (filter is_change (take l.note-index l.notes)) l.fn.out.items l.out.items
