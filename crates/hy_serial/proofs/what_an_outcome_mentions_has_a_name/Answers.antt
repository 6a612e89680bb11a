use Rattle.hy_serial.proofs.Naming.{outcomes_named}
use Rattle.hy_serial.proofs.what_an_outcome_mentions_has_a_name.Goals as goal

pub returns : goal.returns
returns c = outcomes_named
