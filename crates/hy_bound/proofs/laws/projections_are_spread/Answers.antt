use Rattle.hy_bound.specs.Masks.{spread_projected}
use Rattle.hy_bound.proofs.laws.projections_are_spread.Goals as goal

pub returns : goal.returns
returns c = spread_projected
