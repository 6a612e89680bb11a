use Rattle.hy_script.proofs.Suiting.{suits}
use Rattle.hy_script.proofs.fitting.accepted_statements_suit.Goals as goal

pub returns : goal.returns
returns c = suits c.bound_statements_fit.ensures
