use Rattle.hy_lawful.proofs.FullPlaced.{reached_placed}
use Rattle.hy_lawful.proofs.states.inserts_take_what_is_placed.Goals as goal

pub returns : goal.returns
returns c = reached_placed
