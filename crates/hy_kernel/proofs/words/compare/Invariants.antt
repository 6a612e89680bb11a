use Rattle.std.proofs.Common.{◌≡◌, ℕ, ◌*◌, ◌/◌, ◌<◌, false, map, drop, get_or}
use Rattle.hy_kernel.specs.Bits.{is_bit, compares}
use Rattle.hy_kernel.proofs.words.compare.Given as goal

-- the words so far say what the comparison says
abbrev pub invariant-loop-k : goal.invariant-loop-k
invariant-loop-k l = record {
  rest : l.rest ≡ drop (64 * l.k) l.values;
  done : (i : ℕ) → i / 64 < l.k → is_bit l.into i ≡ get_or (map (compares l.op l.right) l.values) i false;
}
