use Rattle.hy_prune.proofs.Counting.{ascends}
use Rattle.hy_prune.proofs.starts.Starts.from_rising.Goals as goal

pub invariant_of-result : goal.invariant_of-result
invariant_of-result c = λ e. ascends c.args.times.items c.requires
