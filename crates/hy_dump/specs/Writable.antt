-- Tables that can be written as the beginning of a script: their names are words of the language, and their rows fit them.
use Rattle.std.specs.Prelude.{◌≡◌, ℕ, ◌<◌, ◌≤◌, ◌^◌, ℤ, pos, negsuc, false, List, Some, length}
use Rattle.std.specs.List.{AllByRecursion, AllZip}
use Rattle.std.specs.Str.{IsUtf8}
use Rattle.hy_limits.specs.declared.TheConstants.{MOST_TABLES}
use Rattle.hy_token.specs.declared.Token.TheVariants as token
use Rattle.hy_token.specs.Token.{first_token}
use Rattle.hy_value.specs.declared.Kind.{Kind}
use Rattle.hy_value.specs.declared.Kind.TheVariants as kinds
use Rattle.hy_value.specs.declared.Value.{Value}
use Rattle.hy_value.specs.declared.Value.TheVariants as values
use Rattle.hy_value.specs.TextBytes.{IsText}
use Rattle.hy_schema.specs.declared.Column.{Column}
use Rattle.hy_schema.specs.declared.TableDef.{TableDef}
use Rattle.hy_schema.specs.Names.{column_names, table_names}
use Rattle.hy_bound.specs.Fits.{FitsRows, FitsShape}
use Rattle.hy_bind.specs.Shapes.{defined_shape}
use Rattle.hy_bind.specs.Statements.{repeats}

-- a name of the language: alone it is one token, and this is a name
abbrev pub IsName : List ℕ → Type 0
IsName name = first_token name ≡ Some (token.Name, length name)

-- a number that has 64 bits with its sign
abbrev pub Has64Bits : ℤ → Type 0
Has64Bits (pos n) = n < 2 ^ 63
Has64Bits (negsuc n) = n < 2 ^ 63

-- a value that a column of this type may have
abbrev pub IsOfKind : Kind → Value → Type 0
IsOfKind kind values.Null = Unit {0}
IsOfKind kinds.Int (values.Int number) = Has64Bits number
IsOfKind kinds.Int (values.Text text) = ⊥
IsOfKind kinds.Str (values.Int number) = ⊥
IsOfKind kinds.Str (values.Text text) = IsText text × IsUtf8 text

-- a row has a value for each column, of its type
abbrev pub IsRowOf : List Column → List Value → Type 0
IsRowOf columns row = AllZip (λ (column : Column) (value : Value). IsOfKind column.kind value) columns row

-- a table has a name, and columns of different names; it has one column at least and not too many, and its key is one of them
pub record IsTable (table : TableDef) : Type 0 where
  pub name : IsName table.name
  pub columns : AllByRecursion (λ (column : Column). IsName column.name) table.columns
  pub differ : repeats (column_names table.columns) ≡ false
  pub fits : FitsShape (defined_shape table)

-- tables of different names, not too many
pub record AreTables (catalog : List TableDef) : Type 0 where
  pub few : length catalog ≤ MOST_TABLES
  pub each : AllByRecursion IsTable catalog
  pub differ : repeats (table_names catalog) ≡ false

-- the rows of a table, which has room for so many
pub record AreRowsOf (room : ℕ) (table : TableDef) (rows : List (List Value)) : Type 0 where
  pub typed : AllByRecursion (IsRowOf table.columns) rows
  pub fit : FitsRows room (defined_shape table) rows

-- tables with their rows that can be written: each table has rows that fit it, and room for so many
pub record CanBeWritten (room : ℕ) (catalog : List TableDef) (tables : List (List (List Value))) : Type 0 where
  pub defined : AreTables catalog
  pub filled : AllZip (AreRowsOf room) catalog tables
