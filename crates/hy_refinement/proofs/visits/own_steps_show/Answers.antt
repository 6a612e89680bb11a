use Rattle.hy_refinement.proofs.FramesParts.{own_steps}
use Rattle.hy_refinement.proofs.visits.own_steps_show.Goals as goal

pub returns : goal.returns
returns c = own_steps c.unmoved_places_show.ensures
