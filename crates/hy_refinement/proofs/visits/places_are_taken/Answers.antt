use Rattle.hy_refinement.proofs.PlacesTaken.{visit_is_taken}
use Rattle.hy_refinement.proofs.visits.places_are_taken.Goals as goal

pub returns : goal.returns
returns c setting state parts sessions number session now current table chunk old visited count row progress after new at stands visit =
    visit_is_taken
    (record {
      one_id = c.identifiers_are_apart.ensures.one;
      visited = c.visited_chunks_show.ensures;
      pruned = c.pruned_chunks_show.ensures;
      frees = c.free_positions_are_the_machines.ensures;
      follow = c.notes_follow_writes.ensures;
      unmoved = c.unmoved_places_show.ensures;
      visits = c.chunk_visits_show.ensures;
      taken = c.going_on_is_taken.ensures;
    })
    setting state parts sessions number session now current table chunk old visited count row at stands progress after new visit
