use Rattle.std.proofs.Common.{take}
use Rattle.hy_redo.proofs.Gated.{AreGated}
use Rattle.hy_redo.proofs.log.encode_batch.Given as goal

-- the entries before are there, each behind an open gate
abbrev pub invariant-loop-entry : goal.invariant-loop-entry
invariant-loop-entry l = AreGated (take l.entry-index l.more) l.bytes.items
