use Rattle.hy_serving.proofs.Suiting.{suits_desk}
use Rattle.hy_serving.proofs.laws.what_lines_say_suits.Goals as goal

pub returns : goal.returns
returns c = suits_desk c.accepted_statements_suit.ensures
