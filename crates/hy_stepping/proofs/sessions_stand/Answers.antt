use Rattle.hy_stepping.proofs.Standing.{sessions_stand}
use Rattle.hy_stepping.proofs.sessions_stand.Goals as goal

pub returns : goal.returns
returns c = sessions_stand c.reached_states_are_kept.ensures c.written_chunks_are_the_machines.ensures c.chunks_since_are_the_machines.ensures
