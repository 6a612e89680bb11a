use Rattle.hy_refinement.proofs.Backs.{backs_are}
use Rattle.hy_refinement.proofs.visits.backs_are_taken.Goals as goal

pub returns : goal.returns
returns c = backs_are (record {
  one_id = c.identifiers_are_apart.ensures.one;
  visited = c.visited_chunks_show.ensures;
  pruned = c.pruned_chunks_show.ensures;
  rivals = c.rivals_are_the_machines.ensures;
  follow = c.notes_follow_writes.ensures;
  unmoved = c.unmoved_places_show.ensures;
  visits = c.chunk_visits_show.ensures;
  taken = c.going_on_is_taken.ensures;
})
