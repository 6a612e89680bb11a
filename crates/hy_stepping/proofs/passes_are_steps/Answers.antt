use Rattle.hy_stepping.proofs.ChunksPassed.{passes_shown}
use Rattle.hy_stepping.proofs.passes_are_steps.Goals as goal

pub returns : goal.returns
returns c = passes_shown c.visits_are_steps.ensures
