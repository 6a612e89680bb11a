use Rattle.hy_stepping.proofs.ChunksPassed.{may_pass}
use Rattle.hy_stepping.proofs.chunks_may_be_passed.Goals as goal

pub returns : goal.returns
returns c = may_pass
