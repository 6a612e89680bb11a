use Rattle.std.proofs.Common.{length, drop, ◌-◌, ◌≡◌, ◌≤◌}
use Rattle.hy_token.specs.Letters.{word_on}
use Rattle.hy_token.proofs.lengths.longer_word.Given as goal

-- the word so far with what is left is the whole word
abbrev pub invariant-loop-len : goal.invariant-loop-len
invariant-loop-len l = record {
  in_range : l.len ≤ length l.bytes;
  so_far : word_on l.len l.letters (drop l.len l.bytes) ≡ word_on l.fn.seen l.fn.letters (drop l.fn.seen l.bytes);
}

abbrev pub decreases-loop-len : goal.decreases-loop-len
decreases-loop-len l = length l.bytes - l.len
