-- Neighbours of the laws of columns: a column that is named is left out, or is more than a set has.
use Rattle.std.specs.Prelude.{◌≡◌, ℕ, ◌+◌, List, [], ◌∷◌, not, ◌&&◌, ◌==◌, nat_lt, filter}
use Rattle.std.specs.List.{AllByRecursion}
use Rattle.hy_value.specs.declared.Value.{Value}
use Rattle.hy_value.specs.declared.Cmp.TheVariants.{Eq}
use Rattle.hy_value.specs.Columns.{has_column}
use Rattle.hy_bound.specs.declared.predicate.Side.TheVariants as side
use Rattle.hy_bound.specs.declared.Assign.{Assign}
use Rattle.hy_bound.specs.declared.Shape.{Shape}
use Rattle.hy_bound.specs.Agreement.{Agree, FitTable, is_named}
use Rattle.hy_bound.specs.Assignment.{value_of}
use Rattle.hy_bound.specs.Condition.{Condition, Compare}
use Rattle.hy_bound.specs.Expression.{Add, Literal, Column}
use Rattle.hy_bound.specs.Predicate.{sense_of}
use Rattle.hy_bound.specs.Projection.{masked}
use Rattle.hy_bound.specs.Records.{columns_of}
use Rattle.hy_plan.specs.ColumnSets.{named_columns}
use Rattle.hy_plan.specs.Reads.{write_read_of}
use Rattle.hy_cases.specs.Examples.{number}

-- of these columns all but one
abbrev pub all_but : ℕ → List ℕ → List ℕ
all_but missing columns = filter (λ column. not (column == missing)) columns

-- a condition says the same of rows that agree on all columns that it names but one
abbrev pub AllButOneSuffice : Type 0
AllButOneSuffice =
    (condition : Condition) (missing : ℕ) (row other : List Value) → Agree (all_but missing (columns_of condition)) row other
    → sense_of condition row ≡ sense_of condition other

-- that the first two columns are equal
abbrev pub are_equal : Condition
are_equal = Compare 0 Eq (side.Column 1)

-- the right sides of SET are in a row what they are in its columns of WHERE alone
abbrev pub WhereColumnsSuffice : Type 0
WhereColumnsSuffice =
    (shape : Shape) (table : ℕ) (sets : List Assign) (pred : Condition) (row : List Value) → FitTable shape (row ∷ [])
    → AllByRecursion (λ set. value_of set.value (masked (write_read_of shape table [] pred).columns row) ≡ value_of set.value row) sets

-- SET of the first column to one more
abbrev pub adding_one : List Assign
adding_one = record { column = 0; value = Add (Column 0) (Literal (number 1)) } ∷ []

-- a set of columns gets of a table those that are named, whatever their numbers
abbrev pub AnyColumnIsTaken : Type 0
AnyColumnIsTaken =
    (from width : ℕ) (named : List ℕ) (column : ℕ)
    → has_column (named_columns from width named) column ≡ (nat_lt column width && is_named named (from + column))
