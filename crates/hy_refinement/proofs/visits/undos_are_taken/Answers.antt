use Rattle.hy_refinement.proofs.Undos.{undos_are}
use Rattle.hy_refinement.proofs.visits.undos_are_taken.Goals as goal

pub returns : goal.returns
returns c = undos_are c.unmoved_places_show.ensures c.visited_chunks_show.ensures c.chunk_visits_show.ensures c.going_on_is_taken.ensures
