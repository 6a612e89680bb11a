use Rattle.std.proofs.Common.{sym, ◌∙◌}
use Rattle.hy_token.proofs.FirstTwo.{no_sign, first_two}
use Rattle.hy_token.proofs.Sign.first.Goals as goal

pub returns-in-empty : goal.returns-in-empty
returns-in-empty c = sym (no_sign c.args.bytes.now c.in-empty.len_below)

pub returns-in-len2-up : goal.returns-in-len2-up
returns-in-len2-up c = c.of_two.ensures ∙ first_two c.args.bytes.now c.in-len2-up.len_at_least
