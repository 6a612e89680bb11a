use Rattle.std.proofs.Common.{◌≡◌, length}
use Rattle.hy_chunk.proofs.Over.{over}
use Rattle.hy_chunk.proofs.writes.copy_kept.Given as goal

-- the values so far are copied
abbrev pub invariant-loop-column : goal.invariant-loop-column
invariant-loop-column l = record {
  next : l.next ≡ over l.column l.row l.initial.next;
  size : length l.next ≡ length l.row;
}
