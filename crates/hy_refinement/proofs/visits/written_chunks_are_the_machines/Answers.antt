use Rattle.hy_refinement.proofs.NotedChunks.{written_chunks_are}
use Rattle.hy_refinement.proofs.visits.written_chunks_are_the_machines.Goals as goal

pub returns : goal.returns
returns c = written_chunks_are
