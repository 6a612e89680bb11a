use Rattle.hy_lawful.proofs.ViewWidths.{reached_see}
use Rattle.hy_lawful.proofs.states.reached_views_fit.Goals as goal

pub returns : goal.returns
returns c = reached_see
