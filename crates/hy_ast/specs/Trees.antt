-- Statements as they are written, without where their parts lie in memory: each tree of the program and the tree of
-- the same name that contracts see.
use Rattle.std.specs.Prelude.{Bool, List, [], ◌∷◌, Option, None, Some, map}
use Rattle.std.specs.Option.{option_map}
use Rattle.hy_token.specs.declared.Span.{Span}
use Rattle.hy_value.specs.declared.Cmp.{Cmp}
use Rattle.hy_value.specs.declared.Cmp.TheVariants.{Eq}
use Rattle.hy_ast.specs.declared.ColumnRef.{ColumnRef}
use Rattle.hy_ast.specs.declared.ColumnDef.{ColumnDef}
use Rattle.hy_ast.specs.declared.Literal.{Literal}
use Rattle.hy_ast.specs.declared.Literal.TheVariants.{Integer}
use Rattle.hy_ast.specs.declared.Operand.{Operand}
use Rattle.hy_ast.specs.declared.Operand.TheVariants as operands
use Rattle.hy_ast.specs.declared.Operator.{Operator}
use Rattle.hy_ast.specs.declared.Join.{Join}
use Rattle.hy_ast.specs.declared.Turn.{Turn}
use Rattle.hy_ast.specs.declared.Total.{Total}
use Rattle.hy_ast.specs.declared.Listed.TheVariants.{Columns}
use Rattle.hy_ast.specs.declared.ShortSelection.{ShortSelection}
use Rattle.hy_ast.specs.declared.ShortSet.{ShortSet}
use Rattle.hy_ast.specs.declared.ShortTest.{ShortTest}
use Rattle.hy_ast.specs.declared.Listed.{Listed}
use Rattle.hy_ast.specs.declared.Test as boxed_test
use Rattle.hy_ast.specs.declared.Formula as boxed_formula
use Rattle.hy_ast.specs.declared.SetClause as boxed_set_clause
use Rattle.hy_ast.specs.declared.Selection as boxed_selection
use Rattle.hy_ast.specs.declared.Selection.TheVariants as selections
use Rattle.hy_ast.specs.declared.Statement as boxed_statement
use Rattle.hy_ast.specs.declared.Statement.TheVariants as statements

-- a condition
pub data Test : Type 0 where
  Compare : (left : ColumnRef) (op : Cmp) (at : Span) (right : Operand) → Test
  IsNull : (column : ColumnRef) (at : Span) (negated : Bool) → Test
  Not : (at : Span) (test : Test) → Test
  And : (left : Test) (at : Span) (right : Test) → Test
  Or : (left : Test) (at : Span) (right : Test) → Test
  Nested : (test : Test) → Test

-- the right side of an assignment
pub data Formula : Type 0 where
  Plain : (operand : Operand) → Formula
  Binary : (left : Formula) (op : Operator) (at : Span) (right : Formula) → Formula
  Bracket : (formula : Formula) → Formula

-- an assignment
pub record SetClause : Type 0 where
  pub column : Span
  pub value : Formula

-- a SELECT
pub data Selection : Type 0 where
  Rows : (listed : Listed) (table : Span) (joins : List Join) (test : Option Test) → Selection
  Count : (table : Span) (test : Option Test) → Selection
  Groups : (column : ColumnRef) (total : Total) (table : Span) (test : Option Test) (key : ColumnRef) → Selection

-- a statement
pub data Statement : Type 0 where
  Create : (table : Span) (columns : List ColumnDef) → Statement
  Insert : (table : Span) (values : List Literal) → Statement
  Session : (name : Span) → Statement
  Begin : (read_only : Bool) → Statement
  Commit : Statement
  Rollback : Statement
  Savepoint : (name : Span) → Statement
  RollbackTo : (name : Span) → Statement
  Release : (name : Span) → Statement
  Select : (selection : Selection) → Statement
  Update : (table : Span) (sets : List SetClause) (test : Option Test) → Statement
  Delete : (table : Span) (test : Option Test) → Statement
  Schedule : (turns : List Turn) → Statement
  End : Statement

abbrev pub test_of : boxed_test.Test → Test
test_of (boxed_test.Compare left op at right) = Compare left op at right
test_of (boxed_test.IsNull column at negated) = IsNull column at negated
test_of (boxed_test.Not' at p inner) = Not at (test_of inner)
test_of (boxed_test.And' p left at q right) = And (test_of left) at (test_of right)
test_of (boxed_test.Or' p left at q right) = Or (test_of left) at (test_of right)
test_of (boxed_test.Nested' p inner) = Nested (test_of inner)

abbrev pub formula_of : boxed_formula.Formula → Formula
formula_of (boxed_formula.Plain operand) = Plain operand
formula_of (boxed_formula.Binary' p left op at q right) = Binary (formula_of left) op at (formula_of right)
formula_of (boxed_formula.Bracket' p inner) = Bracket (formula_of inner)

abbrev pub set_clause_of : boxed_set_clause.SetClause → SetClause
set_clause_of set = record { column = set.column; value = formula_of set.value }

-- a column that is written without its table, and an integer without a sign
abbrev pub unqualified : Span → ColumnRef
unqualified column = record { table = None; column = column }

abbrev pub unsigned : Span → Literal
unsigned digits = Integer None digits

-- a short assignment, a short condition and a short SELECT
abbrev pub clause_of_short : ShortSet → SetClause
clause_of_short set = record {
  column = set.column;
  value = Binary (Plain (operands.Column (unqualified set.left))) set.op set.at (Plain (operands.Literal (unsigned set.digits)));
}

abbrev pub test_of_short : ShortTest → Test
test_of_short test = Compare (unqualified test.column) Eq test.at (operands.Literal (unsigned test.digits))

abbrev pub selection_of_short : ShortSelection → Selection
selection_of_short short = Rows (Columns (unqualified short.column ∷ [])) short.table [] (Some (test_of_short short.test))

abbrev pub selection_of : boxed_selection.Selection → Selection
selection_of (selections.Rows listed table joins condition) = Rows listed table joins (option_map test_of condition)
selection_of (selections.Count table condition) = Count table (option_map test_of condition)
selection_of (selections.Groups column total table condition key) = Groups column total table (option_map test_of condition) key

abbrev pub statement_of : boxed_statement.Statement → Statement
statement_of (statements.Create table columns) = Create table columns
statement_of (statements.Insert table values) = Insert table values
statement_of (statements.Session name) = Session name
statement_of (statements.Begin read_only) = Begin read_only
statement_of statements.Commit = Commit
statement_of statements.Rollback = Rollback
statement_of (statements.Savepoint name) = Savepoint name
statement_of (statements.RollbackTo name) = RollbackTo name
statement_of (statements.Release name) = Release name
statement_of (statements.Select query) = Select (selection_of query)
statement_of (statements.Update table sets condition) = Update table (map set_clause_of sets) (option_map test_of condition)
statement_of (statements.ShortUpdate table set test) = Update table (clause_of_short set ∷ []) (Some (test_of_short test))
statement_of (statements.ShortSelect short) = Select (selection_of_short short)
statement_of (statements.Delete table condition) = Delete table (option_map test_of condition)
statement_of (statements.Schedule turns) = Schedule turns
statement_of statements.End = End
