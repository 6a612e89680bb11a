use Rattle.std.proofs.Common.{length, drop, ◌-◌, ◌≡◌, ◌+◌, ◌≤◌}
use Rattle.std.specs.Option.{option_map}
use Rattle.hy_token.specs.Lengths.{text_rest_len}
use Rattle.hy_token.proofs.lengths.text_rest_len.Given as goal

-- the text so far and that of what is left are the whole
abbrev pub invariant-loop-len : goal.invariant-loop-len
invariant-loop-len l = record {
  in_range : l.len ≤ length l.bytes;
  so_far : option_map (λ n. l.len + n) (text_rest_len (drop l.len l.bytes)) ≡ text_rest_len l.bytes;
}

abbrev pub decreases-loop-len : goal.decreases-loop-len
decreases-loop-len l = length l.bytes - l.len
