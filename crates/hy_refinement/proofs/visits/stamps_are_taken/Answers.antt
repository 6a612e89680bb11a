use Rattle.hy_refinement.proofs.StampedVisits.{stamps_are}
use Rattle.hy_refinement.proofs.visits.stamps_are_taken.Goals as goal

pub returns : goal.returns
returns c =
    stamps_are c.visited_chunks_show.ensures c.pruned_chunks_show.ensures c.chunk_visits_show.ensures c.going_on_is_taken.ensures
