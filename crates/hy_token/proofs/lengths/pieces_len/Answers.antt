use Rattle.std.proofs.Common.{◌≡◌, ◌-◌, take, drop, length, ap, ◌∙◌, arith}
use Rattle.std.proofs.lemmas.Grind.{common_steps}
use Rattle.hy_token.specs.Lengths.{piece_len}
use Rattle.hy_token.proofs.Blanks.{blank_more}
use Rattle.hy_token.proofs.lengths.pieces_len.Goals as goal

pub loop-len-preserved : goal.loop-len-preserved
loop-len-preserved c =
    let bytes = c.args.bytes.now in
    let rest : take (length bytes - c.loop-len.len) (drop c.loop-len.len bytes) ≡ drop c.loop-len.len bytes = grind (arith, common_steps) in
    let more = blank_more bytes c.loop-len.len c.piece_len-step.result _ c.loop-len.invariant.in_range (c.piece_len-step.ensures ∙ ap piece_len rest) c.loop-len.invariant.so_far in
    record { in_range = more.0; so_far = more.1 }
