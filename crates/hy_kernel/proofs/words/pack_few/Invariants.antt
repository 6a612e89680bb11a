use Rattle.std.proofs.Common.{◌≡◌, map, drop}
use lib.Lanes.{mask_l}
use Rattle.hy_kernel.specs.Bits.{compares}
use Rattle.hy_kernel.proofs.words.pack_few.Given as goal

-- the word has the bits of the numbers from here on
abbrev pub invariant-loop-i : goal.invariant-loop-i
invariant-loop-i l = l.word ≡ mask_l (map (compares l.op l.right) (drop l.i l.values))
