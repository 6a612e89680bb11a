-- What a condition is made of is smaller than it.
use Rattle.std.specs.Prelude.{◌≤◌, max}
use Rattle.std.proofs.Common.{arith}
use Rattle.hy_bound.specs.declared.predicate.PredNode.{PredNode}
use Rattle.hy_bound.specs.declared.predicate.PredNode.TheVariants as node
use Rattle.hy_bound.specs.declared.predicate.Pred.TheDeep.{deep-PredNode}
use Rattle.hy_bound.specs.Condition.{parts}
use Rattle.hy_bound.specs.PredView.{condition}

-- a side has fewer parts than the whole
pub depth_le-parts : (n : PredNode) → max (deep-PredNode n) 0 ≤ parts (condition n)
depth_le-parts node.True = omega arith
depth_le-parts (node.Compare column op side) = omega arith
depth_le-parts (node.IsNull column) = omega arith
depth_le-parts (node.Not inner) = omega arith
depth_le-parts (node.And left right) = omega arith
depth_le-parts (node.Or left right) = omega arith
