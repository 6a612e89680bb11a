use Rattle.hy_refinement.proofs.FramesPlaces.{unmoved}
use Rattle.hy_refinement.proofs.visits.unmoved_places_show.Goals as goal

pub returns : goal.returns
returns c = unmoved
