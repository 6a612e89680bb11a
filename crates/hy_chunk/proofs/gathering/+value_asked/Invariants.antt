use Rattle.hy_bound.specs.Condition.{parts}
use Rattle.hy_chunk.proofs.gathering.+value_asked.Given as goal

abbrev pub decreases-value_asked : goal.decreases-value_asked
decreases-value_asked l = parts l.pred.now
