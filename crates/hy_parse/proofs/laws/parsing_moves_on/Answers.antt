use Rattle.hy_parse.proofs.Scripts.{statement_moves, fault_moves}
use Rattle.hy_parse.proofs.laws.parsing_moves_on.Goals as goal

pub returns : goal.returns
returns c = record {
  statement = statement_moves c.tokens_move_on.ensures;
  fault = fault_moves c.tokens_move_on.ensures;
}
