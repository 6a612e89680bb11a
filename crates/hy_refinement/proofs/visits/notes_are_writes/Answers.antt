use Rattle.hy_refinement.proofs.NotedChunks.{notes_are}
use Rattle.hy_refinement.proofs.visits.notes_are_writes.Goals as goal

pub returns : goal.returns
returns c = notes_are
