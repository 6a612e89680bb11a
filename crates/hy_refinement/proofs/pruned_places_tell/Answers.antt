use Rattle.hy_refinement.proofs.PrunedPlaces.{tells}
use Rattle.hy_refinement.proofs.pruned_places_tell.Goals as goal

pub returns : goal.returns
returns c = tells c.pruning_keeps_stamps.ensures c.pruning_shrinks.ensures
