use Rattle.hy_lawful.proofs.ViewSteps.{entries_stand}
use Rattle.hy_lawful.proofs.states.reached_entries_stand.Goals as goal

pub returns : goal.returns
returns c = entries_stand
