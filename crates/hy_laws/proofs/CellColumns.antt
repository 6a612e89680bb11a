-- The records that statements log have the columns that their conditions name.
use Rattle.std.proofs.Common.{◌≡◌, ℕ, ◌+◌, ◌<◌, ◌≤◌, List, [], ◌∷◌, ◌++◌, length, ◌∙◌, arith}
use Rattle.std.specs.Prelude.{true, ◌&&◌, nat_lt, Option, None, Some, slice_get, slice_index_or, drop}
use Rattle.std.specs.List.{AllByRecursion, flat_map}
use Rattle.std.proofs.lemmas.Bool.{and_from, lt-ltb}
use Rattle.hy_value.specs.declared.ColMask.{ColMask}
use Rattle.hy_value.specs.declared.Value.{Value}
use Rattle.hy_value.specs.Columns.{has_column}
use Rattle.hy_bound.specs.declared.Assign.{Assign}
use Rattle.hy_bound.specs.declared.Bound.{Bound}
use Rattle.hy_bound.specs.declared.Bound.TheVariants.{Select, Group, Insert, Update, Delete, Savepoint, RollbackTo, Release}
use Rattle.hy_bound.specs.declared.On.{On}
use Rattle.hy_bound.specs.declared.Record.{Record}
use Rattle.hy_bound.specs.declared.Shape.{Shape}
use Rattle.hy_bound.specs.Agreement.{Among, is_named}
use Rattle.hy_bound.specs.Condition.{Condition}
use Rattle.hy_bound.specs.Predicate.{column_of}
use Rattle.hy_bound.specs.Records.{columns_of, columns_summed, on_columns, select_conditions, set_columns, shape_of}
use Rattle.hy_bound.specs.Truths.{each_both, each_weaker, among_behind, among_self}
use Rattle.hy_meaning.specs.Statement.{Table}
use Rattle.hy_plan.specs.declared.Read.{Read}
use Rattle.hy_plan.specs.ColumnSets.{named_columns}
use Rattle.hy_plan.specs.Members.{has_named}
use Rattle.hy_plan.specs.Reads.{columns_over, key_is_value, key_read, key_reads_of, one_read_of, reads_from, recorded, reads_of}
use Rattle.hy_plan.specs.Reads.{rows_read_of, select_named, table_read_of, write_read_of}
use Rattle.hy_plan.specs.Restricted.{conditions_named, ons_named}
use Rattle.hy_laws.specs.CellShown.{HasItsColumns, LoggedHaveTheirColumns}
use Rattle.hy_laws.proofs.Missed.{OwnNamed, OnAmong, own_columns_named, table_read_named}
use Rattle.hy_laws.proofs.Unseen.{first_on, other_ons}

-- the columns of a condition on a table of this width are in a set
abbrev HasColumnsOf : ℕ → ColMask → Condition → Type 0
HasColumnsOf width columns condition = AllByRecursion (λ column. column < width → has_column columns column ≡ true) (columns_of condition)

-- a read has the columns of its conditions
abbrev HasAll : List Shape → Read → Type 0
HasAll shapes read = AllByRecursion (HasColumnsOf (shape_of shapes read.table).width read.columns) read.conditions

-- what a record needs to have its columns
abbrev HasOwn : List Shape → Record → Type 0
HasOwn shapes logged = HasItsColumns (shape_of shapes logged.table).width logged

-- a set of named columns has a column that is named
has_this : (from width : ℕ) (named : List ℕ) (column : ℕ) → width ≤ 32 → column < width → is_named named (from + column) ≡ true
    → has_column (named_columns from width named) column ≡ true
has_this from width named column few below h =
    has_named from width named column
    ∙ and_from (nat_lt column 32) (nat_lt column width && is_named named (from + column)) (lt-ltb column 32 (omega (arith, few, below)))
    (and_from (nat_lt column width) (is_named named (from + column)) (lt-ltb column width below) h)

conditions_have : (from width : ℕ) (named : List ℕ) (conditions : List Condition) → width ≤ 32 → AllByRecursion (OwnNamed from named) conditions
    → AllByRecursion (HasColumnsOf width (named_columns from width named)) conditions
conditions_have from width named conditions few h =
    each_weaker (OwnNamed from named) (HasColumnsOf width (named_columns from width named)) conditions
    (λ condition own. each_weaker (λ column. is_named named (from + column) ≡ true)
    (λ column. column < width → has_column (named_columns from width named) column ≡ true) (columns_of condition)
    (λ column is below. has_this from width named column few below is) own) h

-- ---- reads of one table

one_has : (shapes : List Shape) (table : ℕ) (condition : Condition) (named : List ℕ) → (shape_of shapes table).width ≤ 32 → Among named (columns_of condition)
    → HasAll shapes (one_read_of (shape_of shapes table) table condition named)
one_has shapes table condition named few among =
    conditions_have 0 (shape_of shapes table).width named (condition ∷ []) few (own_columns_named named condition among, tt)

key_has : (shapes : List Shape) (table : ℕ) (row : List Value) (key : ℕ) → (shape_of shapes table).width ≤ 32
    → HasAll shapes (key_read (shape_of shapes table) table row key)
key_has shapes table row key few = one_has shapes table (key_is_value key (column_of row key)) (key ∷ []) few (among_self (key ∷ []))

write_has : (shapes : List Shape) (table : ℕ) (sets : List Assign) (pred : Condition) → (shape_of shapes table).width ≤ 32
    → HasAll shapes (write_read_of (shape_of shapes table) table sets pred)
write_has shapes table sets pred few =
    one_has shapes table pred (set_columns sets ++ columns_of pred) few
    (among_behind (set_columns sets) (columns_of pred) (columns_of pred) (among_self (columns_of pred)))

-- ---- reads of a SELECT

select_has : (shapes : List Shape) (conditions : List Condition) (named : List ℕ) → ((table : ℕ) → (shape_of shapes table).width ≤ 32)
    → AllByRecursion (λ c. Among named (columns_of c)) conditions
    → (earlier : List (List Value)) (on : Option On) (ons : List On) (tables : List ℕ) (gathered : List Table)
    → OnAmong named on → AllByRecursion (λ o. Among named (on_columns o)) ons
    → AllByRecursion (HasAll shapes) (reads_from shapes conditions named earlier on ons tables gathered)
select_has shapes conditions named few each earlier on ons [] gathered first others = tt
select_has shapes conditions named few each earlier on ons (table ∷ tables) gathered first others =
    let shape : Shape = shape_of shapes table in
    let read : Read = table_read_of shape table on conditions named earlier in (
      conditions_have (length earlier) shape.width named read.conditions (few table) (table_read_named shape table on conditions named earlier each first),
      select_has shapes conditions named few each
          (earlier ++ columns_over shape.width (rows_read_of read (slice_index_or gathered 0 []))) (slice_get ons 0) (drop 1 ons) tables (drop 1 gathered)
          (first_on named ons others) (other_ons named ons others),
    )

-- ---- every statement

keys_have : (shapes : List Shape) (table : ℕ) (row : List Value) (key : Option ℕ) → (shape_of shapes table).width ≤ 32
    → AllByRecursion (HasAll shapes) (key_reads_of (shape_of shapes table) table row key)
keys_have shapes table row None few = tt
keys_have shapes table row (Some key) few = (key_has shapes table row key few, tt)

reads_have : (shapes : List Shape) (statement : Bound) (gathered : List Table) → ((table : ℕ) → (shape_of shapes table).width ≤ 32)
    → AllByRecursion (HasAll shapes) (reads_of shapes statement gathered)
reads_have shapes (Select tables ons pred items) gathered few =
    select_has shapes (select_conditions ons pred) (select_named ons pred items) few (conditions_named ons pred items) [] None ons tables gathered
    tt (ons_named ons pred items)
reads_have shapes (Group table pred key aggregate) gathered few = (
  one_has shapes table pred (key ∷ columns_summed aggregate ++ columns_of pred) (few table)
      (among_behind (key ∷ columns_summed aggregate) (columns_of pred) (columns_of pred) (among_self (columns_of pred))),
  tt,
)
reads_have shapes (Insert table row) gathered few = keys_have shapes table row (shape_of shapes table).key (few table)
reads_have shapes (Update table sets pred) gathered few = (write_has shapes table sets pred (few table), tt)
reads_have shapes (Delete table pred) gathered few = (write_has shapes table [] pred (few table), tt)
reads_have shapes (Savepoint name) gathered few = tt
reads_have shapes (RollbackTo name) gathered few = tt
reads_have shapes (Release name) gathered few = tt

recorded_have : (shapes : List Shape) (number table : ℕ) (columns : ColMask) (conditions : List Condition)
    → AllByRecursion (HasColumnsOf (shape_of shapes table).width columns) conditions
    → AllByRecursion (HasOwn shapes) (recorded number (record { table = table; conditions = conditions; columns = columns }))
recorded_have shapes number table columns [] h = tt
recorded_have shapes number table columns (condition ∷ conditions) h = (h.0, recorded_have shapes number table columns conditions h.1)

all_have : (shapes : List Shape) (number : ℕ) (reads : List Read) → AllByRecursion (HasAll shapes) reads
    → AllByRecursion (HasOwn shapes) (flat_map (recorded number) reads)
all_have shapes number [] h = tt
all_have shapes number (read ∷ reads) h =
    each_both (HasOwn shapes) (recorded number read) (flat_map (recorded number) reads)
    (recorded_have shapes number read.table read.columns read.conditions h.0) (all_have shapes number reads h.1)

pub logged_have_their_columns : LoggedHaveTheirColumns
logged_have_their_columns shapes number statement gathered few =
    all_have shapes number (reads_of shapes statement gathered) (reads_have shapes statement gathered few)
