use Rattle.hy_stepping.proofs.OutcomesEnds.{ends_are}
use Rattle.hy_stepping.proofs.ends_are_the_machines.Goals as goal

pub returns : goal.returns
returns c = ends_are c.reached_states_are_kept.ensures
