-- What the name of a column means, without the search for it.
use Rattle.std.specs.Prelude.{◌≡◌, ◌≢◌, ℕ, ◌+◌, ◌⊎◌, List, ◌∷◌, ◌++◌, Some, IfSome, take, slice_get}
use Rattle.std.specs.List.{All, Contains}
use Rattle.hy_schema.specs.declared.Column.{Column}
use Rattle.hy_schema.specs.declared.TableDef.{TableDef}
use Rattle.hy_schema.specs.Names.{table_at}
use Rattle.hy_ast.specs.declared.ColumnRef.{ColumnRef}
use Rattle.hy_bind.specs.declared.scope.Found.{Found}
use Rattle.hy_bind.specs.Literals.{text_of_span}
use Rattle.hy_bind.specs.Scope.{Scope, total_width}

-- a table of the statement has the column that a reference names, and is the table that it names, if it names
-- one; of columns of one name the first counts
pub record MayMean (scope : Scope) (reference : ColumnRef) (table : ℕ) : Type 0 where
  pub stands : Contains scope.tables table
  pub def : TableDef
  pub is : table_at scope.catalog table ≡ Some def
  pub of_table : IfSome reference.table (λ name. text_of_span scope.script name ≡ def.name)
  pub ordinal : ℕ
  pub column : Column
  pub there : slice_get def.columns ordinal ≡ Some column
  pub named : column.name ≡ text_of_span scope.script reference.column
  pub first : All (λ (earlier : Column). earlier.name ≢ text_of_span scope.script reference.column) (take ordinal def.columns)

-- a reference means the column of the one table of the statement that has it; in the joined row the column
-- stands behind those of the tables before that one
pub record Means (scope : Scope) (reference : ColumnRef) (found : Found) : Type 0 where
  pub meant : MayMean scope reference found.table
  pub alone : (other : ℕ) → MayMean scope reference other → other ≡ found.table
  pub before : List ℕ
  pub behind : List ℕ
  pub tables : scope.tables ≡ before ++ found.table ∷ behind
  pub first : All (λ other. other ≢ found.table) before
  pub number : found.column ≡ total_width scope.catalog before + meant.ordinal
  pub kind : found.kind ≡ meant.column.kind

-- two tables of the statement have the column that a reference names
pub record MayMeanTwo (scope : Scope) (reference : ColumnRef) : Type 0 where
  pub one : ℕ
  pub other : ℕ
  pub is_one : MayMean scope reference one
  pub is_other : MayMean scope reference other
  pub differ : one ≢ other

-- a reference means nothing where no table of the statement has the column that it names, or more than one
abbrev pub MeansNothing : Scope → ColumnRef → Type 0
MeansNothing scope reference = ((table : ℕ) → MayMean scope reference table → ⊥) ⊎ MayMeanTwo scope reference
