use Rattle.std.proofs.Common.{◌∙◌, arith, length-drop}
use Rattle.std.proofs.lemmas.List.{take_rest}
use Rattle.hy_outside.proofs.PieceByPiece.{Takes-more}
use Rattle.hy_outside.proofs.write_all.Goals as goal

pub turns-preserved : goal.turns-preserved
turns-preserved g c = record {
  advanced = omega (arith, length-drop c.turns.done c.args.bytes.now, c.in-Ok.ensures.some);
  within = omega (arith, length-drop c.turns.done c.args.bytes.now, c.in-Ok.ensures.bound);
  taken = Takes-more _ _ _ c.args.bytes.now c.turns.done c.in-Ok.count c.turns.invariant.taken (rw (take_rest c.args.bytes.now c.turns.done) at c.in-Ok.ensures.taken);
  steady = c.in-Ok.ensures.steady ∙ c.turns.invariant.steady;
}
