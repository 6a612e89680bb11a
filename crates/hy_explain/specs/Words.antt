-- The names that a script gives to its tables, columns and sessions.
use Rattle.std.specs.Prelude.{ℕ, suc, List, [], ◌∷◌, ◌++◌, Bool, true, false, ◌||◌, Option, None, Some, slice_get, codes}
use Rattle.std.specs.Fmt.{decimal}
use Rattle.hy_schema.specs.declared.Column.{Column}
use Rattle.hy_schema.specs.declared.TableDef.{TableDef}
use Rattle.hy_script.specs.declared.NamedTxns.{NamedTxns}
use Rattle.hy_stamp.specs.declared.Label.{Label}

abbrev pub name_of_table : Option TableDef → List ℕ
name_of_table None = []
name_of_table (Some table) = table.name

-- the name of the table of a number
abbrev pub table_name : List TableDef → ℕ → List ℕ
table_name tables number = name_of_table (slice_get tables number)

abbrev pub columns_in : Option TableDef → List Column
columns_in None = []
columns_in (Some table) = table.columns

-- the columns of the table of a number
abbrev pub columns_at : List TableDef → ℕ → List Column
columns_at tables number = columns_in (slice_get tables number)

abbrev pub name_of_column : Option Column → List ℕ
name_of_column None = []
name_of_column (Some column) = column.name

-- the name of the column of a number
abbrev pub column_name : List Column → ℕ → List ℕ
column_name columns number = name_of_column (slice_get columns number)

abbrev pub name_of_session : Option NamedTxns → List ℕ
name_of_session None = []
name_of_session (Some session) = session.name

-- the name of the session of a number
abbrev pub session_name : List NamedTxns → ℕ → List ℕ
session_name sessions number = name_of_session (slice_get sessions number)

-- a transaction is named by its session and its number
abbrev pub txn_name : List NamedTxns → Label → List ℕ
txn_name sessions label = session_name sessions label.session ++ codes "." ++ decimal label.txn

-- a comma and a space where something stands before
abbrev pub comma_after : Bool → List ℕ
comma_after true = codes ", "
comma_after false = []

-- a name, where it is told
abbrev pub told_name : Bool → Bool → List ℕ → List ℕ
told_name false came name = []
told_name true came name = comma_after came ++ name

-- the names of the columns of which a test is true, the first column having this number; whether one came before them
abbrev pub names_from : (ℕ → Bool) → Bool → ℕ → List Column → List ℕ
names_from test came number [] = []
names_from test came number (column ∷ columns) =
    told_name (test number) came column.name ++ names_from test (came || test number) (suc number) columns

-- the names of the columns of which a test is true, with commas between
abbrev pub names_where : (ℕ → Bool) → List Column → List ℕ
names_where test columns = names_from test false 0 columns
