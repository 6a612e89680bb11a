use Rattle.hy_refinement.proofs.FramesParts.{chunk_visits}
use Rattle.hy_refinement.proofs.visits.chunk_visits_show.Goals as goal

pub returns : goal.returns
returns c = chunk_visits c.unmoved_places_show.ensures
