use Rattle.std.proofs.Common.{length, drop, ◌-◌, ◌≡◌, ◌+◌, ◌≤◌, false}
use Rattle.hy_token.specs.Lengths.{blank_from}
use Rattle.hy_token.proofs.lengths.pieces_len.Given as goal

-- the blank so far and that of what is left are the whole
abbrev pub invariant-loop-len : goal.invariant-loop-len
invariant-loop-len l = record {
  in_range : l.len ≤ length l.bytes;
  so_far : l.len + blank_from false (drop l.len l.bytes) ≡ blank_from false l.bytes;
}

abbrev pub decreases-loop-len : goal.decreases-loop-len
decreases-loop-len l = length l.bytes - l.len
