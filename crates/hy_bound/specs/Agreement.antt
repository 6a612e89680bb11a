-- When rows are alike for what looks only at some columns.
use Rattle.std.specs.Prelude.{◌≡◌, ◌≤◌, ℕ, List, [], ◌∷◌, Bool, true, ◌<◌, ◌==◌, Some, length}
use Rattle.std.specs.List.{list_any, AllByRecursion}
use Rattle.hy_value.specs.declared.Value.{Value}
use Rattle.hy_bound.specs.declared.Shape.{Shape}
use Rattle.hy_bound.specs.Predicate.{column_of}
use Rattle.hy_bound.specs.Records.{shape_of}

-- rows agree on columns
abbrev pub Agree : List ℕ → List Value → List Value → Type 0
Agree columns row other = AllByRecursion (λ column. column_of row column ≡ column_of other column) columns

-- a column is one of these
abbrev pub is_named : List ℕ → ℕ → Bool
is_named named column = list_any (λ other. other == column) named

-- these columns are among those
abbrev pub Among : List ℕ → List ℕ → Type 0
Among named columns = AllByRecursion (λ column. is_named named column ≡ true) columns

-- rows have so many columns
abbrev pub HaveWidth : ℕ → List (List Value) → Type 0
HaveWidth width rows = AllByRecursion (λ row. length row ≡ width) rows

-- rows fit a table: they have its columns, of which there are at most 32
abbrev pub FitTable : Shape → List (List Value) → Type 0
FitTable shape rows = (shape.width ≤ 32) × HaveWidth shape.width rows

-- the rows gathered for these tables fit them, table by table
abbrev pub FitTables : List Shape → List ℕ → List (List (List Value)) → Type 0
FitTables shapes [] [] = Unit
FitTables shapes [] (rows ∷ gathered) = ⊥
FitTables shapes (table ∷ tables) [] = ⊥
FitTables shapes (table ∷ tables) (rows ∷ gathered) = FitTable (shape_of shapes table) rows × FitTables shapes tables gathered

-- a table's key is one of its columns
abbrev pub HasItsKey : Shape → Type 0
HasItsKey shape = (key : ℕ) → shape.key ≡ Some key → key < shape.width

abbrev pub HaveTheirKeys : List Shape → List ℕ → Type 0
HaveTheirKeys shapes tables = AllByRecursion (λ table. HasItsKey (shape_of shapes table)) tables
