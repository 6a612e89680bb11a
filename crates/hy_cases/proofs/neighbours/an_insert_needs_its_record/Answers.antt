use Rattle.hy_cases.proofs.Unseen.{inserts_fail}
use Rattle.hy_cases.proofs.neighbours.an_insert_needs_its_record.Goals as goal

pub returns : goal.returns
returns c = inserts_fail
