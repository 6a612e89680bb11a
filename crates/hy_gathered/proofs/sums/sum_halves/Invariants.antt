use Rattle.std.proofs.Common.{◌≡◌, ◌+◌, ◌-◌, ◌≤◌, ◌*◌, ◌^◌, drop, pos, ◌+ℤ◌}
use Rattle.hy_gathered.specs.Numbers.{total}
use Rattle.hy_gathered.proofs.sums.sum_halves.Given as goal

-- the halves so far and the sum of the rest are the whole, moved up; and each number so far added at most so much to each half
abbrev pub invariant-loop-number : goal.invariant-loop-number
invariant-loop-number l = record {
  whole : pos (l.low + 2 ^ 32 * l.high) +ℤ total (drop l.number-index l.numbers) ≡ total l.numbers +ℤ pos (2 ^ 63 * l.number-index);
  low : l.low ≤ (2 ^ 32 - 1) * l.number-index;
  high : l.high ≤ (2 ^ 32 - 1) * l.number-index;
}
