use Rattle.std.proofs.Common.{◌≡◌, ℕ, ◌+◌, ◌*◌, ◌<◌, ◌≤◌, false}
use Rattle.hy_kernel.specs.Bits.{is_bit}
use Rattle.hy_kernel.proofs.words.next.Given as goal

-- no bit is set up to the first of this word that isn't skipped
abbrev pub invariant-loop-k : goal.invariant-loop-k
invariant-loop-k l = record {
  skip : l.skipped < 64;
  reached : l.from ≤ 64 * l.k + l.skipped;
  passed : (i : ℕ) → l.from ≤ i → i < 64 * l.k + l.skipped → is_bit l.words i ≡ false;
}
