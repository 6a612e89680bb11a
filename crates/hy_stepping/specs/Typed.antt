-- When the values of a script are of the types of its tables' columns.
use Rattle.std.specs.Prelude.{◌≡◌, ℕ, List, [], length, slice_index_or}
use Rattle.std.specs.List.{All, AllZip}
use Rattle.hy_value.specs.declared.Kind.{Kind}
use Rattle.hy_value.specs.declared.Value.{Value}
use Rattle.hy_bound.specs.declared.Bound.{Bound}
use Rattle.hy_bound.specs.declared.Bound.TheVariants.{Select, Group, Insert, Update, Delete, Savepoint, RollbackTo, Release}
use Rattle.hy_bound.specs.declared.Shape.{Shape}
use Rattle.hy_bound.specs.declared.Txn.{Txn}
use Rattle.hy_bound.specs.Records.{shape_of}
use Rattle.hy_chunk.specs.Sound.{FitsRow}
use Rattle.hy_session.specs.Near.{IsTyped}

-- the types of a table's columns
abbrev pub kinds_of : List (List Kind) → ℕ → List Kind
kinds_of kinds table = slice_index_or kinds table []

-- a statement is of the types of a table
abbrev pub IsTypedOf : List (List Kind) → List Shape → ℕ → Bound → Type 0
IsTypedOf kinds shapes table statement = IsTyped (kinds_of kinds table) (shape_of shapes table).key statement

-- a statement is of the types of the table that it writes in
abbrev pub IsTypedIn : List (List Kind) → List Shape → Bound → Type 0
IsTypedIn kinds shapes (Select tables ons pred items) = Unit {0}
IsTypedIn kinds shapes (Group table pred key aggregate) = Unit {0}
IsTypedIn kinds shapes (Insert table row) = IsTypedOf kinds shapes table (Insert table row)
IsTypedIn kinds shapes (Update table sets pred) = IsTypedOf kinds shapes table (Update table sets pred)
IsTypedIn kinds shapes (Delete table pred) = Unit {0}
IsTypedIn kinds shapes (Savepoint name) = Unit {0}
IsTypedIn kinds shapes (RollbackTo name) = Unit {0}
IsTypedIn kinds shapes (Release name) = Unit {0}

abbrev pub IsTypedTxn : List (List Kind) → List Shape → Txn → Type 0
IsTypedTxn kinds shapes txn = All (IsTypedIn kinds shapes) txn.statements

-- each table has a type for each of its columns, its first rows are of these types, and so is each statement
pub record AreTyped (kinds : List (List Kind)) (shapes : List Shape) (first : List (List (List Value))) (programs : List (List Txn)) : Type 0 where
  pub tables : AllZip (λ (shape : Shape) (types : List Kind). length types ≡ shape.width) shapes kinds
  pub rows : AllZip (λ (types : List Kind) (rows : List (List Value)). All (FitsRow types) rows) kinds first
  pub statements : All (λ (txns : List Txn). All (IsTypedTxn kinds shapes) txns) programs
