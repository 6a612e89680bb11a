use Rattle.hy_lawful.proofs.ViewWidths.{reached_tables}
use Rattle.hy_lawful.proofs.states.reached_tables_fit.Goals as goal

pub returns : goal.returns
returns c = reached_tables
