-- Names and their numbers.
use Rattle.std.specs.Prelude.{ℕ, ◌||◌, is_some, List, Option, Some, None, map, position, slice_get, length, nat_le, nat_lt, if◌then◌else◌}
use Rattle.std.specs.Str.{bytes_eq}
use Rattle.hy_limits.specs.declared.TheConstants.{MOST_COLUMNS, MOST_TABLES}
use Rattle.hy_schema.specs.declared.Column.{Column}
use Rattle.hy_schema.specs.declared.TableDef.{TableDef}
use Rattle.hy_schema.specs.declared.AddError.{AddError}
use Rattle.hy_schema.specs.declared.AddError.TheVariants.{Duplicate, Limit}

-- the number of a name among names: its index in their list
abbrev pub number_of : List (List ℕ) → List ℕ → Option ℕ
number_of names name = position (bytes_eq name) names

-- the names of tables
abbrev pub table_names : List TableDef → List (List ℕ)
table_names tables = map (λ table. table.name) tables

-- the number of a table
abbrev pub table_number : List TableDef → List ℕ → Option ℕ
table_number tables name = number_of (table_names tables) name

-- the table of a number
abbrev pub table_at : List TableDef → ℕ → Option TableDef
table_at tables number = slice_get tables number

-- the names of columns
abbrev pub column_names : List Column → List (List ℕ)
column_names columns = map (λ column. column.name) columns

-- the number of a column
abbrev pub column_number : List Column → List ℕ → Option ℕ
column_number columns name = number_of (column_names columns) name

-- why a table is not added: its name is there, or else there are as many tables as may be,
-- or it has too many columns
abbrev pub refusal_of : List TableDef → TableDef → Option AddError
refusal_of tables def =
    if is_some (table_number tables def.name) then Some Duplicate
    else (if nat_le MOST_TABLES (length tables) || nat_lt MOST_COLUMNS (length def.columns) then Some Limit else None)
