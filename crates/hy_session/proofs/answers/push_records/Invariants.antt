use Rattle.std.proofs.Common.{◌≡◌, ◌++◌, ◌≤◌, length}
use Rattle.std.specs.Vec.Iter.{into_iter_items}
use Rattle.hy_session.proofs.answers.push_records.Given as goal

-- those added and those left are all, and for those left there is room
abbrev pub invariant-loop-record : goal.invariant-loop-record
invariant-loop-record l = record {
  entries : l.log.entries ++ into_iter_items l.record-iterator ≡ l.fn.log.entries ++ l.fn.records;
  room : length (into_iter_items l.record-iterator) ≤ l.log.room;
}
