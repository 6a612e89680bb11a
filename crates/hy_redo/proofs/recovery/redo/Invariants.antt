use Rattle.std.proofs.Common.{length}
use Rattle.hy_redo.proofs.Pieces.{IsDone}
use Rattle.hy_redo.proofs.recovery.redo.Given as goal

abbrev pub invariant-entries : goal.invariant-entries
invariant-entries l = IsDone l.bytes l.fn.so_far.tables.items l.fn.so_far.last l.fn.so_far.gate l.so_far.tables.items l.so_far.last l.rest

abbrev pub decreases-entries : goal.decreases-entries
decreases-entries l = length l.rest
