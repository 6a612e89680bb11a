use Rattle.std.proofs.Common.{◌≡◌, vec_len}
use Rattle.hy_chunk.proofs.chunk.blank_version.Given as goal

abbrev pub invariant-loop-column : goal.invariant-loop-column
invariant-loop-column l = vec_len l.row ≡ l._column
