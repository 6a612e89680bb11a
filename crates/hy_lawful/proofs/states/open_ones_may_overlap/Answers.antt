use Rattle.hy_lawful.proofs.FullOverlaps.{open_ones_overlap}
use Rattle.hy_lawful.proofs.states.open_ones_may_overlap.Goals as goal

pub returns : goal.returns
returns c = open_ones_overlap
