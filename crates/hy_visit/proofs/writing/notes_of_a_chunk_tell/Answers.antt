use Rattle.std.proofs.Common.{length}
use Rattle.hy_visit.proofs.NotedBefore.{chunk_tells}
use Rattle.hy_visit.proofs.writing.notes_of_a_chunk_tell.Goals as goal

pub returns : goal.returns
returns c = λ chunk notes. chunk_tells chunk.table chunk.first (length chunk.places) notes
