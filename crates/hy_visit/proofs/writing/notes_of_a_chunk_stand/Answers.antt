use Rattle.hy_visit.proofs.ChunkNotes.{chunk_notes}
use Rattle.hy_visit.proofs.writing.notes_of_a_chunk_stand.Goals as goal

pub returns : goal.returns
returns c = λ chunk notes. chunk_notes chunk notes
