use Rattle.hy_lawful.proofs.KeptStates.{reached_are_kept}
use Rattle.hy_lawful.proofs.states.reached_states_are_kept.Goals as goal

pub returns : goal.returns
returns c = reached_are_kept
