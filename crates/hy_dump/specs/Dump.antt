-- Tables as the beginning of a script: a line that makes each, and a line that inserts each of its rows.
use Rattle.std.specs.Prelude.{ℕ, zero, suc, List, [], ◌∷◌, ◌++◌, Bool, true, false, Option, None, Some, slice_index_or, codes, ◌==◌}
use Rattle.std.specs.List.{flat_map}
use Rattle.hy_value.specs.declared.Kind.{Kind}
use Rattle.hy_value.specs.declared.Kind.TheVariants.{Int, Str}
use Rattle.hy_value.specs.declared.Value.{Value}
use Rattle.hy_value.specs.Print.{printed}
use Rattle.hy_schema.specs.declared.Column.{Column}
use Rattle.hy_schema.specs.declared.TableDef.{TableDef}

-- a comma and a space before each item of a list but the first
abbrev pub comma_before : ℕ → List ℕ
comma_before zero = []
comma_before (suc number) = codes ", "

abbrev pub kind_word : Kind → List ℕ
kind_word Int = codes " INT"
kind_word Str = codes " TEXT"

abbrev pub is_key : Option ℕ → ℕ → Bool
is_key None number = false
is_key (Some key) number = key == number

abbrev pub key_mark : Bool → List ℕ
key_mark true = codes " PRIMARY KEY"
key_mark false = []

-- a column with its type, as CREATE TABLE has it
abbrev pub column_text : Column → Bool → List ℕ
column_text column is_key = column.name ++ kind_word column.kind ++ key_mark is_key

-- columns, the first of them having this number
abbrev pub columns_text : Option ℕ → ℕ → List Column → List ℕ
columns_text key number [] = []
columns_text key number (column ∷ columns) =
    comma_before number ++ column_text column (is_key key number) ++ columns_text key (suc number) columns

-- a list in parentheses, and the end of its statement and of its line
abbrev pub enclosed : List ℕ → List ℕ
enclosed list = codes " (" ++ list ++ codes ");\n"

-- the line that makes a table
abbrev pub create_line : TableDef → List ℕ
create_line table = codes "CREATE TABLE " ++ table.name ++ enclosed (columns_text table.key 0 table.columns)

-- values, the first of them having this number
abbrev pub values_text : ℕ → List Value → List ℕ
values_text number [] = []
values_text number (value ∷ values) = comma_before number ++ printed value ++ values_text (suc number) values

-- the line that inserts a row into the table of this name
abbrev pub insert_line : List ℕ → List Value → List ℕ
insert_line name row = codes "INSERT INTO " ++ name ++ codes " VALUES" ++ enclosed (values_text 0 row)

-- a table and its rows
abbrev pub table_text : TableDef → List (List Value) → List ℕ
table_text table rows = create_line table ++ flat_map (insert_line table.name) rows

-- the rows of the table of a number
abbrev pub rows_at : List (List (List Value)) → ℕ → List (List Value)
rows_at tables number = slice_index_or tables number []

-- tables with their rows, the first of them having this number
abbrev pub dump_from : List (List (List Value)) → ℕ → List TableDef → List ℕ
dump_from tables number [] = []
dump_from tables number (table ∷ defined) = table_text table (rows_at tables number) ++ dump_from tables (suc number) defined

-- all tables with their rows
abbrev pub dump : List TableDef → List (List (List Value)) → List ℕ
dump defined tables = dump_from tables 0 defined
