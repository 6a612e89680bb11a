use Rattle.std.proofs.Common.{◌≡◌, ℕ, ◌<◌, ◌≤◌, get_or}
use Rattle.std.specs.Prelude.{bit_and}
use Rattle.std.specs.Int.{bit_not, w64}
use Rattle.hy_kernel.proofs.words.and_not.Given as goal

-- the words so far are joined, the others as they were
abbrev pub invariant-loop-k : goal.invariant-loop-k
invariant-loop-k l = record {
  done : (k : ℕ) → k < l.k → get_or l.into k 0 ≡ bit_and (get_or l.initial.into k 0) (bit_not w64 (get_or l.other k 0));
  rest : (k : ℕ) → l.k ≤ k → get_or l.into k 0 ≡ get_or l.initial.into k 0;
}
