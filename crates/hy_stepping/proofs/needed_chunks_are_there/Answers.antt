use Rattle.hy_stepping.proofs.NeededChunks.{chunks_there}
use Rattle.hy_stepping.proofs.needed_chunks_are_there.Goals as goal

pub returns : goal.returns
returns c = chunks_there c.reached_states_are_kept.ensures
