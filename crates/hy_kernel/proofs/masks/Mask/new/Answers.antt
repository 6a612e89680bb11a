use Rattle.std.proofs.Common.{◌+◌, ◌/◌, ap, ◌∙◌}
use Rattle.hy_kernel.specs.Bits.{bits_below}
use Rattle.hy_kernel.proofs.Listed.{blank}
use Rattle.hy_kernel.proofs.masks.Mask.new.Goals as goal

pub returns : goal.returns
returns c = ap (bits_below c.args.bits) (c.in_ok-words.ensures.items_if_clones_equal (λ y e. e)) ∙ blank c.args.bits (c.args.bits / 64 + 1)
