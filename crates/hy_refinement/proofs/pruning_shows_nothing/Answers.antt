use Rattle.hy_refinement.proofs.Prunings.{pruned_shows}
use Rattle.hy_refinement.proofs.pruning_shows_nothing.Goals as goal

pub returns : goal.returns
returns c = pruned_shows c.pruned_places_tell.ensures
