use Rattle.hy_lawful.proofs.RunStates.{reached_have_run}
use Rattle.hy_lawful.proofs.states.transactions_have_run.Goals as goal

pub returns : goal.returns
returns c = reached_have_run
