use Rattle.hy_cases.proofs.Readings.{another_key_fails}
use Rattle.hy_cases.proofs.neighbours.an_insert_looks_at_no_other_key.Goals as goal

pub returns : goal.returns
returns c = another_key_fails
