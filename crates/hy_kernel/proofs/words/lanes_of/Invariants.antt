use Rattle.std.proofs.Common.{◌≡◌, ◌<◌, ℕ, ℤ, get_or, FitsSigned, w64, length}
use Rattle.hy_kernel.proofs.words.lanes_of.Given as goal

-- the lanes so far are the numbers, each of which has its type's range
abbrev pub invariant-loop-i : goal.invariant-loop-i
invariant-loop-i l = record {
  size : length l.lanes ≡ 16;
  same : (k : ℕ) (d : ℤ) → k < l.i → get_or l.lanes k d ≡ get_or l.values k d;
  fit : (k : ℕ) (d : ℤ) → k < l.i → FitsSigned w64 (get_or l.values k d);
}
