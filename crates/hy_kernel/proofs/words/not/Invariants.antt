use Rattle.std.proofs.Common.{◌≡◌, ℕ, ◌-◌, ◌*◌, ◌^◌, ◌<◌, ◌≤◌, get_or}
use Rattle.std.specs.Prelude.{bit_and, min}
use Rattle.hy_kernel.proofs.words.not.Given as goal

-- the words so far are turned about, as far as there are bits, the others as they were
abbrev pub invariant-loop-k : goal.invariant-loop-k
invariant-loop-k l = record {
  left : l.left ≡ l.bits - 64 * l.k;
  fits : (k : ℕ) → k < l.k → get_or l.initial.into k 0 < 2 ^ 64;
  done : (k : ℕ) → k < l.k → get_or l.into k 0 ≡ bit_and (2 ^ 64 - 1 - get_or l.initial.into k 0) (2 ^ min (l.bits - 64 * k) 64 - 1);
  rest : (k : ℕ) → l.k ≤ k → get_or l.into k 0 ≡ get_or l.initial.into k 0;
}
