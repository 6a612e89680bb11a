-- What a predicate of the program says.
use Rattle.hy_value.specs.declared.Value.TheVariants as value
use Rattle.hy_bound.specs.declared.predicate.PredNode.{PredNode}
use Rattle.hy_bound.specs.declared.predicate.PredNode.TheVariants as node
use Rattle.hy_bound.specs.declared.predicate.Operand.{Operand}
use Rattle.hy_bound.specs.declared.predicate.Operand.TheVariants as operand
use Rattle.hy_bound.specs.declared.predicate.Side.{Side}
use Rattle.hy_bound.specs.declared.predicate.Side.TheVariants.{Column, Literal}
use Rattle.hy_bound.specs.declared.predicate.SideView.{SideView}
use Rattle.hy_bound.specs.declared.predicate.SideView.TheVariants as seen
use Rattle.hy_bound.specs.declared.predicate.Root.{Root}
use Rattle.hy_bound.specs.declared.predicate.Root.TheVariants as root
use Rattle.hy_bound.specs.Condition.{Condition, True, Compare, IsNull, Not, And, Or}

-- the right side of a comparison, from how it is kept
abbrev pub operand_side : Operand → Side
operand_side (operand.Column column) = Column column
operand_side operand.Null = Literal value.Null
operand_side (operand.Int number) = Literal (value.Int number)
operand_side (operand.Text text) = Literal (value.Text text.value)

abbrev pub condition : PredNode → Condition
condition node.True = True
condition (node.Compare column op side) = Compare column op (operand_side side)
condition (node.IsNull column) = IsNull column
condition (node.Not inner) = Not inner.value
condition (node.And left right) = And left.value right.value
condition (node.Or left right) = Or left.value right.value

-- and from how it looks from outside
abbrev pub viewed_side : SideView → Side
viewed_side (seen.Column column) = Column column
viewed_side seen.Null = Literal value.Null
viewed_side (seen.Int number) = Literal (value.Int number)
viewed_side (seen.Text text) = Literal (value.Text text.now)

-- the condition that has this root
abbrev pub rooted : Root → Condition
rooted root.True = True
rooted (root.Compare column op side) = Compare column op (viewed_side side)
rooted (root.IsNull column) = IsNull column
rooted (root.Not inner) = Not inner.now
rooted (root.And left right) = And left.now right.now
rooted (root.Or left right) = Or left.now right.now
