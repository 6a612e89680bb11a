-- The right sides of assignments with their names resolved.
use Rattle.std.specs.Prelude.{Bool, ◌&&◌, not, Option, Some}
use Rattle.hy_value.specs.declared.Kind.{Kind}
use Rattle.hy_value.specs.declared.Kind.TheVariants as kinds
use Rattle.hy_ast.specs.declared.Operand.{Operand}
use Rattle.hy_ast.specs.declared.Operand.TheVariants as operands
use Rattle.hy_ast.specs.declared.Operator.{Operator}
use Rattle.hy_ast.specs.declared.Operator.TheVariants as operator
use Rattle.hy_ast.specs.Trees.{Formula}
use Rattle.hy_ast.specs.Trees as tree
use Rattle.hy_bound.specs.Expression.{Expression, Literal, Column, Add, Sub, Mul}
use Rattle.hy_bind.specs.declared.refusals.BindFault.{BindFault}
use Rattle.hy_bind.specs.declared.refusals.BindFault.TheVariants as fault
use Rattle.hy_bind.specs.Literals.{literal_value}
use Rattle.hy_bind.specs.Refusals.{first_of, fault_if, agree}
use Rattle.hy_bind.specs.Scope.{Scope, column_of, operand_fault, operand_kind}

-- the type of an expression: an operator makes a number
abbrev pub formula_kind : Scope → Formula → Option Kind
formula_kind scope (tree.Plain operand) = operand_kind scope operand
formula_kind scope (tree.Binary left op at right) = Some kinds.Int
formula_kind scope (tree.Bracket inner) = formula_kind scope inner

-- whether it may be a number
abbrev pub is_number : Option Kind → Bool
is_number kind = agree kind (Some kinds.Int)

-- why an expression is refused: a column that isn't there, a text between operators, a literal
abbrev pub formula_fault : Scope → Formula → Option BindFault
formula_fault scope (tree.Plain operand) = operand_fault scope operand
formula_fault scope (tree.Binary left op at right) =
    first_of (first_of (formula_fault scope left) (formula_fault scope right))
    (fault_if (not (is_number (formula_kind scope left) && is_number (formula_kind scope right))) fault.WrongType)
formula_fault scope (tree.Bracket inner) = formula_fault scope inner

abbrev pub operand_bound : Scope → Operand → Expression
operand_bound scope (operands.Column reference) = Column (column_of scope reference)
operand_bound scope (operands.Literal literal) = Literal (literal_value scope.script literal)

abbrev pub binary_bound : Operator → Expression → Expression → Expression
binary_bound operator.Plus left right = Add left right
binary_bound operator.Minus left right = Sub left right
binary_bound operator.Times left right = Mul left right

-- an expression as the engine runs it
abbrev pub formula_bound : Scope → Formula → Expression
formula_bound scope (tree.Plain operand) = operand_bound scope operand
formula_bound scope (tree.Binary left op at right) = binary_bound op (formula_bound scope left) (formula_bound scope right)
formula_bound scope (tree.Bracket inner) = formula_bound scope inner
