use Rattle.hy_script.proofs.Ending.{some_answer}
use Rattle.hy_script.proofs.laws.reading_comes_to_an_answer.Goals as goal

pub returns : goal.returns
returns c = some_answer c.tokens_move_on.ensures c.parsing_moves_on.ensures.statement
