use Rattle.hy_lawful.proofs.ViewWidths.{reached_saw}
use Rattle.hy_lawful.proofs.states.reached_savepoints_fit.Goals as goal

pub returns : goal.returns
returns c = reached_saw
