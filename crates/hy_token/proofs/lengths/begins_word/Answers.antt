use Rattle.std.proofs.Common.{ap, ◌∙◌, arith}
use Rattle.std.specs.Prelude.{nat_lt}
use Rattle.hy_token.proofs.WordBytes.{past_digits}
use Rattle.hy_token.proofs.lengths.begins_word.Goals as goal

pub returns : goal.returns
returns c = ap (nat_lt 57) c.small.ensures ∙ past_digits c.args.byte (omega arith)
