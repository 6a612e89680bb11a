use Rattle.std.proofs.Common.{◌≡◌, ◌+◌, ◌-◌, ◌*◌, ◌≤◌}
use Rattle.std.specs.Prelude.{filter, vec_len, vec_capacity}
use Rattle.std.specs.List.{range_with_len}
use Rattle.hy_kernel.specs.Bits.{is_kept, values_at}
use Rattle.hy_kernel.proofs.words.pick_without.Given as goal

-- the numbers at those of the words so far are found, and there is room for those of the others
abbrev pub invariant-loop-k : goal.invariant-loop-k
invariant-loop-k l = record {
  found : l.found.items ≡ values_at l.values (filter (is_kept l.words l.others l.first l.end) (range_with_len 0 (64 * l.k)));
  room : vec_len l.found + 64 * (l.last - l.k) ≤ vec_capacity l.found;
}
