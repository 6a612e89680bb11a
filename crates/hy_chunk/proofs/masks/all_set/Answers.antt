use Rattle.std.proofs.Common.{map, ap, ◌∙◌}
use Rattle.std.specs.Prelude.{not}
use Rattle.hy_chunk.proofs.Masking.{turned}
use Rattle.hy_chunk.proofs.masks.all_set.Goals as goal

pub returns : goal.returns
returns c = c.invert.ensures ∙ (ap (map not) c.in_ok-mask.ensures ∙ turned c.args.bits)
