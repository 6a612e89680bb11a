use Rattle.hy_laws.proofs.Gathered.{gathered_answer}
use Rattle.hy_laws.proofs.laws.gathered_rows_answer.Goals as goal

pub returns : goal.returns
returns c = gathered_answer
