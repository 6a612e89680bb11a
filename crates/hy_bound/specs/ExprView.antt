-- What an expression of the program says.
use Rattle.hy_value.specs.declared.Value.TheVariants as value
use Rattle.hy_bound.specs.declared.expression.ExprNode.{ExprNode}
use Rattle.hy_bound.specs.declared.expression.ExprNode.TheVariants as node
use Rattle.hy_bound.specs.declared.expression.ExprRoot.{ExprRoot}
use Rattle.hy_bound.specs.declared.expression.ExprRoot.TheVariants as root
use Rattle.hy_bound.specs.declared.expression.Leaf.{Leaf}
use Rattle.hy_bound.specs.declared.expression.Leaf.TheVariants as leaf
use Rattle.hy_bound.specs.declared.expression.Operator.{Operator}
use Rattle.hy_bound.specs.declared.expression.Operator.TheVariants as operator
use Rattle.hy_bound.specs.Expression.{Expression, Literal, Column, Add, Sub, Mul}

-- a value or a column that is kept without a block
abbrev pub leaf_expression : Leaf → Expression
leaf_expression leaf.Null = Literal value.Null
leaf_expression (leaf.Int number) = Literal (value.Int number)
leaf_expression (leaf.Column column) = Column column

-- an operator between two expressions
abbrev pub operation : Operator → Expression → Expression → Expression
operation operator.Add left right = Add left right
operation operator.Sub left right = Sub left right
operation operator.Mul left right = Mul left right

abbrev pub expression : ExprNode → Expression
expression (node.Leaf leaf) = leaf_expression leaf
expression (node.Text text) = Literal (value.Text text.value)
expression (node.Pair op left right) = operation op (leaf_expression left) (leaf_expression right)
expression (node.Binary op left right) = operation op left.value right.value

-- the expression that has this root
abbrev pub rooted : ExprRoot → Expression
rooted (root.Leaf leaf) = leaf_expression leaf
rooted (root.Text text) = Literal (value.Text text.now)
rooted (root.Pair op left right) = operation op (leaf_expression left) (leaf_expression right)
rooted (root.Binary op left right) = operation op left.now right.now
