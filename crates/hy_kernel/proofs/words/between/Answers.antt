use Rattle.std.proofs.Common.{◌-◌, ◌^◌, ◌<◌, ◌∙◌, arith}
use Rattle.std.specs.Prelude.{◌==◌, bit_and}
use Rattle.std.specs.Int.{bit_at, bit_not, w64}
use Rattle.hy_kernel.proofs.Gathered.{part_bits}
use Rattle.hy_kernel.proofs.words.between.Goals as goal

pub returns : goal.returns
returns c = λ i within.
    let fits : 2 ^ c.args.from - 1 < 2 ^ 64 = omega (arith, c.low_ones-2.ensures, c.low_ones-2.type_inv) in
    (λ t. bit_at (bit_and (bit_and c.args.word (c.low_ones.ensures t)) (bit_not w64 (c.low_ones-2.ensures t))) i == 1)
    ∙ part_bits c.args.word c.args.from c.args.to i fits within
