use Rattle.std.proofs.Common.{length, sym, ap, ◌∙◌}
use Rattle.hy_kernel.proofs.Listed.{length_below}
use Rattle.hy_kernel.proofs.masks.Mask.len.Goals as goal

pub returns : goal.returns
returns c = sym (length_below c.self.inside.bits c.self.inside.words.items) ∙ ap length c.self.view_is
