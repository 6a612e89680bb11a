use Rattle.hy_undo.proofs.Stepping.{places_step}
use Rattle.hy_undo.proofs.places_step.Goals as goal

pub returns : goal.returns
returns c = places_step c.pruning_keeps_views.ensures
