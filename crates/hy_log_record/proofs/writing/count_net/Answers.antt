use Rattle.std.proofs.Common.{rules}
use Rattle.std.proofs.lemmas.List.Sums.{length-filter}
use Rattle.hy_notes.specs.Notes.{is_change}
use Rattle.hy_log_record.proofs.writing.count_net.Goals as goal

pub returns : goal.returns
returns c = search (rules, length-filter is_change c.args.notes.now)
