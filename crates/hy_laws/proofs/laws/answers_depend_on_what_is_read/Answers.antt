use Rattle.hy_laws.proofs.Joined.{answer_from_reads}
use Rattle.hy_laws.proofs.laws.answers_depend_on_what_is_read.Goals as goal

pub returns : goal.returns
returns c = answer_from_reads
