-- What a statement reads of each table, and the records that it logs of that.
use Rattle.std.specs.Prelude.{ℕ, ◌+◌, List, [], ◌∷◌, ◌++◌, Bool, not, ◌&&◌, ◌==◌, nat_le, nat_lt, if◌then◌else◌, Option, None, Some, length, drop, slice_index_or, slice_get, map, filter}
use Rattle.std.specs.List.{list_any, flat_map, range_with_len}
use Rattle.hy_value.specs.declared.Value.{Value}
use Rattle.hy_value.specs.declared.Cmp.TheVariants.{Eq}
use Rattle.hy_value.specs.Sorted.{distinct}
use Rattle.hy_bound.specs.declared.predicate.Side.TheVariants.{Literal}
use Rattle.hy_bound.specs.declared.Assign.{Assign}
use Rattle.hy_bound.specs.declared.On.{On}
use Rattle.hy_bound.specs.declared.Items.{Items}
use Rattle.hy_bound.specs.declared.Bound.{Bound}
use Rattle.hy_bound.specs.declared.Bound.TheVariants.{Select, Group, Insert, Update, Delete, Savepoint, RollbackTo, Release}
use Rattle.hy_bound.specs.declared.Shape.{Shape}
use Rattle.hy_plan.specs.declared.Read.{Read}
use Rattle.hy_bound.specs.declared.Record.{Record}
use Rattle.hy_bound.specs.Condition.{Condition, Compare}
use Rattle.hy_bound.specs.Predicate.{column_of, is_null_value, truth_of}
use Rattle.hy_bound.specs.Projection.{masked}
use Rattle.hy_bound.specs.Records.{select_conditions, columns_of, columns_shown, columns_summed, on_columns, set_columns, conjoined, shape_of}
use Rattle.hy_plan.specs.Restrictions.{restriction}
use Rattle.hy_plan.specs.ColumnSets.{named_columns}

-- a row is read where one of the conditions is true of it
abbrev pub is_read_of : List Condition → List Value → Bool
is_read_of conditions row = list_any (λ condition. truth_of condition row) conditions

-- the rows that are read of these, with NULL in the other columns
abbrev pub rows_read_of : Read → List (List Value) → List (List Value)
rows_read_of read rows = map (masked read.columns) (filter (is_read_of read.conditions) rows)

-- what is read of gathered tables, each by its read
abbrev pub read_rows : List Read → List (List (List Value)) → List (List (List Value))
read_rows [] gathered = []
read_rows (read ∷ reads) [] = []
read_rows (read ∷ reads) (rows ∷ gathered) = rows_read_of read rows ∷ read_rows reads gathered

-- Where ON makes the key of a table equal to a column of an earlier one, rows are looked up by their key.

-- the column of an earlier table to which ON makes the key equal, the table's own columns beginning at `from`
abbrev pub source_column : ℕ → ℕ → On → Option ℕ
source_column from key on =
    if on.left == from + key && nat_lt on.right from then Some on.right
    else if on.right == from + key && nat_lt on.left from then Some on.left
    else None

-- that column, where the table has a key and an ON
abbrev pub looked_up_column : Option ℕ → ℕ → Option On → Option ℕ
looked_up_column None from on = None
looked_up_column (Some key) from None = None
looked_up_column (Some key) from (Some on) = source_column from key on

-- the key has this value
abbrev pub key_is_value : ℕ → Value → Condition
key_is_value key value = Compare key Eq (Literal value)

-- the different values other than NULL, ascending
abbrev pub known_values_of : List Value → List Value
known_values_of values = distinct (filter (λ value. not (is_null_value value)) values)

-- how many different values of a key are recorded one by one
abbrev pub most_keys : ℕ
most_keys = 1024

-- a restriction for each value of the key, while they are few; else the restriction as it is
abbrev pub by_key_of : Condition → ℕ → List Value → List Condition
by_key_of condition key values =
    if nat_le (length values) most_keys then map (λ value. conjoined condition (key_is_value key value)) values
    else condition ∷ []

-- the conditions under which rows of a table are read, `earlier` having the columns read of earlier tables
abbrev pub read_by_of : Condition → Option ℕ → Option ℕ → List (List Value) → List Condition
read_by_of condition None source earlier = condition ∷ []
read_by_of condition (Some key) None earlier = condition ∷ []
read_by_of condition (Some key) (Some column) earlier =
    by_key_of condition key (known_values_of (slice_index_or earlier column []))

-- the columns of rows that have so many
abbrev pub columns_over : ℕ → List (List Value) → List (List Value)
columns_over width rows = map (λ column. map (λ row. column_of row column) rows) (range_with_len 0 width)

-- what is read of a table whose columns stand behind those of earlier tables: what the conditions say of it
-- alone, by key where ON looks it up, and those of the named columns that are its own
abbrev pub table_read_of : Shape → ℕ → Option On → List Condition → List ℕ → List (List Value) → Read
table_read_of shape table on conditions named earlier = record {
  table = table;
  conditions = read_by_of (restriction (length earlier) shape.width conditions) shape.key (looked_up_column shape.key (length earlier) on) earlier;
  columns = named_columns (length earlier) shape.width named;
}

-- what a SELECT reads of its tables from one on, whose ON is `on`, the others having the ONs behind it; each
-- has its gathered rows
abbrev pub reads_from : List Shape → List Condition → List ℕ → List (List Value) → Option On → List On → List ℕ → List (List (List Value)) → List Read
reads_from shapes conditions named earlier on ons [] gathered = []
reads_from shapes conditions named earlier on ons (table ∷ tables) gathered =
    table_read_of (shape_of shapes table) table on conditions named earlier
    ∷ reads_from shapes conditions named
    (earlier ++ columns_over (shape_of shapes table).width (rows_read_of (table_read_of (shape_of shapes table) table on conditions named earlier) (slice_index_or gathered 0 [])))
    (slice_get ons 0) (drop 1 ons) tables (drop 1 gathered)

-- the columns that a SELECT names
abbrev pub select_named : List On → Condition → Items → List ℕ
select_named ons pred items = flat_map on_columns ons ++ columns_shown items ++ columns_of pred

-- what a SELECT reads of its tables, whose rows are gathered in FROM order; the first has no ON
abbrev pub select_reads_of : List Shape → List ℕ → List On → Condition → Items → List (List (List Value)) → List Read
select_reads_of shapes tables ons pred items gathered =
    reads_from shapes (select_conditions ons pred) (select_named ons pred items) [] None ons tables gathered

-- what is read of the one table of a statement
abbrev pub one_read_of : Shape → ℕ → Condition → List ℕ → Read
one_read_of shape table condition named = record {
  table = table;
  conditions = condition ∷ [];
  columns = named_columns 0 shape.width named;
}

-- what an UPDATE reads; a DELETE sets nothing
abbrev pub write_read_of : Shape → ℕ → List Assign → Condition → Read
write_read_of shape table sets condition = one_read_of shape table condition (set_columns sets ++ columns_of condition)

-- an INSERT looks for its key
abbrev pub key_read : Shape → ℕ → List Value → ℕ → Read
key_read shape table row key = one_read_of shape table (key_is_value key (column_of row key)) (key ∷ [])

abbrev pub key_reads_of : Shape → ℕ → List Value → Option ℕ → List Read
key_reads_of shape table row None = []
key_reads_of shape table row (Some key) = key_read shape table row key ∷ []

-- what a statement reads; the rows of a SELECT's tables are gathered in FROM order
abbrev pub reads_of : List Shape → Bound → List (List (List Value)) → List Read
reads_of shapes (Select tables ons pred items) gathered = select_reads_of shapes tables ons pred items gathered
reads_of shapes (Group table pred key aggregate) gathered =
    one_read_of (shape_of shapes table) table pred (key ∷ columns_summed aggregate ++ columns_of pred) ∷ []
reads_of shapes (Insert table row) gathered = key_reads_of (shape_of shapes table) table row (shape_of shapes table).key
reads_of shapes (Update table sets pred) gathered = write_read_of (shape_of shapes table) table sets pred ∷ []
reads_of shapes (Delete table pred) gathered = write_read_of (shape_of shapes table) table [] pred ∷ []
reads_of shapes (Savepoint name) gathered = []
reads_of shapes (RollbackTo name) gathered = []
reads_of shapes (Release name) gathered = []

-- a record for each condition under which a table is read
abbrev pub recorded : ℕ → Read → List Record
recorded number read =
    map (λ condition. record { statement = number; table = read.table; pred = condition; columns = read.columns }) read.conditions

-- what a statement of this number logs of its reads
abbrev pub records_of : List Shape → ℕ → Bound → List (List (List Value)) → List Record
records_of shapes number statement gathered = flat_map (recorded number) (reads_of shapes statement gathered)
