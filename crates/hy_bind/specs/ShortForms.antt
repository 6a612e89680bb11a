-- What it is that nothing is against a short assignment or a short condition.
use Rattle.std.specs.Prelude.{◌≡◌, ℕ, false, [], ◌∷◌, Some, None}
use Rattle.hy_token.specs.declared.Span.{Span}
use Rattle.hy_value.specs.declared.Kind.TheVariants as kinds
use Rattle.hy_schema.specs.Names.{column_number, table_at}
use Rattle.hy_ast.specs.declared.ShortSet.{ShortSet}
use Rattle.hy_ast.specs.declared.ShortTest.{ShortTest}
use Rattle.hy_ast.specs.Trees.{clause_of_short, test_of_short}
use Rattle.hy_bound.specs.Condition.{Condition}
use Rattle.hy_bound.specs.declared.Assign.{Assign}
use Rattle.hy_bind.specs.Conditions.{test_bound, test_fault}
use Rattle.hy_bind.specs.Literals.{text_of_span}
use Rattle.hy_bind.specs.Scope.{Scope}
use Rattle.hy_bind.specs.Statements.{columns_in, is_key, key_of, kind_at, set_bound, sets_fault}

-- a name means a column of numbers of the one table, which has this number
pub record MeansNumbers (scope : Scope) (name : Span) (column : ℕ) : Type 0 where
  pub table : ℕ
  pub alone : scope.tables ≡ table ∷ []
  pub found : column_number (columns_in (table_at scope.catalog table)) (text_of_span scope.script name) ≡ Some column
  pub numbers : kind_at (columns_in (table_at scope.catalog table)) column ≡ Some kinds.Int

-- it is a column of numbers, and not the key
pub record MayBeSet (scope : Scope) (name : Span) (column : ℕ) : Type 0 where
  pub means : MeansNumbers scope name column
  pub no_key : is_key (key_of scope) column ≡ false

-- a short condition isn't refused, and the engine runs this for it
pub record FitsTest (scope : Scope) (test : ShortTest) (pred : Condition) : Type 0 where
  pub fits : test_fault scope (test_of_short test) ≡ None
  pub made : pred ≡ test_bound scope (test_of_short test)

-- a short assignment isn't refused, and the engine runs this for it
pub record FitsSet (scope : Scope) (set : ShortSet) (assign : Assign) : Type 0 where
  pub fits : sets_fault scope (clause_of_short set ∷ []) ≡ None
  pub made : assign ≡ set_bound scope (clause_of_short set)
