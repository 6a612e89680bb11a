-- Conditions with their names resolved.
use Rattle.std.specs.Prelude.{ℕ, Bool, not, Option, Some, None, if◌then◌else◌}
use Rattle.hy_ast.specs.declared.ColumnRef.{ColumnRef}
use Rattle.hy_ast.specs.declared.Operand.{Operand}
use Rattle.hy_ast.specs.Trees.{Test}
use Rattle.hy_ast.specs.Trees as tree
use Rattle.hy_bound.specs.Condition.{Condition, True, Compare, IsNull, Not, And, Or}
use Rattle.hy_bind.specs.declared.refusals.BindFault.{BindFault}
use Rattle.hy_bind.specs.declared.refusals.BindFault.TheVariants as fault
use Rattle.hy_bind.specs.Refusals.{first_of, fault_if, agree}
use Rattle.hy_bind.specs.Scope.{Scope, column_fault, column_kind, column_of, operand_fault, operand_kind, operand_side}

-- why a comparison is refused: a column that isn't there, sides of two types, a literal
abbrev pub compare_fault : Scope → ColumnRef → Operand → Option BindFault
compare_fault scope left right =
    first_of (first_of (column_fault scope left) (operand_fault scope right)) (fault_if (not (agree (column_kind scope left) (operand_kind scope right))) fault.WrongType)

-- why a condition is refused
abbrev pub test_fault : Scope → Test → Option BindFault
test_fault scope (tree.Compare left op at right) = compare_fault scope left right
test_fault scope (tree.IsNull column at negated) = column_fault scope column
test_fault scope (tree.Not at inner) = test_fault scope inner
test_fault scope (tree.And left at right) = first_of (test_fault scope left) (test_fault scope right)
test_fault scope (tree.Or left at right) = first_of (test_fault scope left) (test_fault scope right)
test_fault scope (tree.Nested inner) = test_fault scope inner

-- IS NULL of a column, or IS NOT NULL
abbrev pub null_bound : ℕ → Bool → Condition
null_bound column negated = if negated then Not (IsNull column) else IsNull column

-- a condition as the engine runs it
abbrev pub test_bound : Scope → Test → Condition
test_bound scope (tree.Compare left op at right) = Compare (column_of scope left) op (operand_side scope right)
test_bound scope (tree.IsNull column at negated) = null_bound (column_of scope column) negated
test_bound scope (tree.Not at inner) = Not (test_bound scope inner)
test_bound scope (tree.And left at right) = And (test_bound scope left) (test_bound scope right)
test_bound scope (tree.Or left at right) = Or (test_bound scope left) (test_bound scope right)
test_bound scope (tree.Nested inner) = test_bound scope inner

-- WHERE, which may be left out
abbrev pub where_fault : Scope → Option Test → Option BindFault
where_fault scope None = None
where_fault scope (Some test) = test_fault scope test

abbrev pub where_bound : Scope → Option Test → Condition
where_bound scope None = True
where_bound scope (Some test) = test_bound scope test
