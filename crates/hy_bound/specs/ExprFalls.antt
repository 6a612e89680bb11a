-- What an expression is made of is smaller than it.
use Rattle.std.specs.Prelude.{◌≤◌, max}
use Rattle.std.proofs.Common.{arith}
use Rattle.hy_bound.specs.declared.expression.ExprNode.{ExprNode}
use Rattle.hy_bound.specs.declared.expression.ExprNode.TheVariants as node
use Rattle.hy_bound.specs.declared.expression.Operator.TheVariants as operator
use Rattle.hy_bound.specs.declared.expression.SetExpr.TheDeep.{deep-ExprNode}
use Rattle.hy_bound.specs.Expression.{parts}
use Rattle.hy_bound.specs.ExprView.{expression}

-- a side has fewer parts than the whole
pub depth_le-parts : (n : ExprNode) → max (deep-ExprNode n) 0 ≤ parts (expression n)
depth_le-parts (node.Leaf leaf) = omega arith
depth_le-parts (node.Text text) = omega arith
depth_le-parts (node.Pair op left right) = omega arith
depth_le-parts (node.Binary operator.Add left right) = omega arith
depth_le-parts (node.Binary operator.Sub left right) = omega arith
depth_le-parts (node.Binary operator.Mul left right) = omega arith
