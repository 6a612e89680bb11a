use Rattle.hy_lawful.proofs.PassSteps.{reached_pass}
use Rattle.hy_lawful.proofs.states.the_committed_passed_unseen.Goals as goal

pub returns : goal.returns
returns c = reached_pass
