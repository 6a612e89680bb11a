-- When a script that is run fits: its tables, its first rows and its transactions.
use Rattle.std.specs.Prelude.{◌≡◌, ◌≢◌, ℕ, ◌+◌, ◌<◌, ◌≤◌, Bool, IsTrue, IsFalse, List, Some, length, map, take, slice_index_or}
use Rattle.std.specs.List.{All, AllPairs, AllZip, sum_by}
use Rattle.hy_value.specs.declared.Value.{Value}
use Rattle.hy_value.specs.declared.Value.TheVariants.{Null}
use Rattle.hy_bound.specs.declared.Assign.{Assign}
use Rattle.hy_bound.specs.declared.On.{On}
use Rattle.hy_bound.specs.declared.Items.{Items}
use Rattle.hy_bound.specs.declared.Items.TheVariants.{Count}
use Rattle.hy_bound.specs.declared.Aggregate.{Aggregate}
use Rattle.hy_bound.specs.declared.Shape.{Shape}
use Rattle.hy_bound.specs.declared.Bound.{Bound}
use Rattle.hy_bound.specs.declared.Bound.TheVariants.{Select, Group, Insert, Update, Delete, Savepoint, RollbackTo, Release}
use Rattle.hy_bound.specs.declared.Txn.{Txn}
use Rattle.hy_bound.specs.OpenSavepoints.{AreOpened}
use Rattle.hy_bound.specs.Condition.{Condition}
use Rattle.hy_bound.specs.Predicate.{column_of}
use Rattle.hy_bound.specs.Records.{columns_of, columns_shown, columns_summed, on_columns, set_columns, shape_of}
use Rattle.hy_bound.specs.Agreement.{HasItsKey}
use Rattle.hy_limits.specs.declared.TheConstants.{MOST_COLUMNS, MOST_SESSIONS, MOST_STATEMENTS, MOST_TABLES, MOST_TXNS}

-- ---- tables and first rows

-- a table has at least one column and at most so many, and its key is one of them
pub record FitsShape (shape : Shape) : Type 0 where
  pub some : 1 ≤ shape.width
  pub few : shape.width ≤ MOST_COLUMNS
  pub key : HasItsKey shape

-- no row has NULL in its key, and no two have the same key
pub record HaveOwnKeys (key : ℕ) (rows : List (List Value)) : Type 0 where
  pub known : All (λ row. column_of row key ≢ Null) rows
  pub differ : AllPairs (λ one other. column_of one key ≢ column_of other key) rows

-- the first rows of a table have its columns, there is room for them, and each has its own key
pub record FitsRows (room : ℕ) (shape : Shape) (rows : List (List Value)) : Type 0 where
  pub widths : All (λ row. length row ≡ shape.width) rows
  pub few : length rows ≤ room
  pub keys : (key : ℕ) → shape.key ≡ Some key → HaveOwnKeys key rows

-- ---- statements

-- columns are among the first so many
abbrev pub LieWithin : ℕ → List ℕ → Type 0
LieWithin width columns = All (λ column. column < width) columns

-- how many columns the joined row of tables has
abbrev pub joined_width : List Shape → List ℕ → ℕ
joined_width shapes tables = sum_by (λ table. (shape_of shapes table).width) tables

-- each ON names columns of the tables up to the one that it joins: the first ON joins the second table
abbrev pub FitOns : List Shape → List ℕ → List On → Type 0
FitOns shapes tables ons =
    (number : ℕ) (d : On) → number < length ons
    → LieWithin (joined_width shapes (take (number + 2) tables)) (on_columns (slice_index_or ons number d))

-- a SELECT has one to four tables, which are there and differ, and an ON for each but the first; its columns
-- are theirs, and a COUNT has one table
pub record FitsSelect (shapes : List Shape) (tables : List ℕ) (ons : List On) (pred : Condition) (items : Items) : Type 0 where
  pub many : length tables ≡ length ons + 1
  pub few : length tables ≤ 4
  pub there : All (λ table. table < length shapes) tables
  pub differ : AllPairs (λ one other. one ≢ other) tables
  pub joins : FitOns shapes tables ons
  pub filter : LieWithin (joined_width shapes tables) (columns_of pred)
  pub shown : LieWithin (joined_width shapes tables) (columns_shown items)
  pub counts_one : items ≡ Count → length tables ≡ 1

-- the columns of a SELECT with GROUP BY are its table's
pub record FitsGroup (shape : Shape) (pred : Condition) (key : ℕ) (aggregate : Aggregate) : Type 0 where
  pub grouped : key < shape.width
  pub summed : LieWithin shape.width (columns_summed aggregate)
  pub filter : LieWithin shape.width (columns_of pred)

-- the row of an INSERT has its table's columns, and a key that is not NULL
pub record FitsInsert (shape : Shape) (row : List Value) : Type 0 where
  pub width : length row ≡ shape.width
  pub known : (key : ℕ) → shape.key ≡ Some key → column_of row key ≢ Null

-- an UPDATE sets columns of its table, each once and none of them the key, and reads columns of its table
pub record FitsUpdate (shape : Shape) (sets : List Assign) (pred : Condition) : Type 0 where
  pub set : LieWithin shape.width (map (λ (assign : Assign). assign.column) sets)
  pub once : AllPairs (λ (one other : Assign). one.column ≢ other.column) sets
  pub spares_key : All (λ (assign : Assign). shape.key ≢ Some assign.column) sets
  pub values : LieWithin shape.width (set_columns sets)
  pub filter : LieWithin shape.width (columns_of pred)

-- a statement fits these tables: its tables are there, and its columns are theirs
abbrev pub FitsStatement : List Shape → Bound → Type 0
FitsStatement shapes (Select tables ons pred items) = FitsSelect shapes tables ons pred items
FitsStatement shapes (Group table pred key aggregate) = (table < length shapes) × FitsGroup (shape_of shapes table) pred key aggregate
FitsStatement shapes (Insert table row) = (table < length shapes) × FitsInsert (shape_of shapes table) row
FitsStatement shapes (Update table sets pred) = (table < length shapes) × FitsUpdate (shape_of shapes table) sets pred
FitsStatement shapes (Delete table pred) = (table < length shapes) × LieWithin (shape_of shapes table).width (columns_of pred)
FitsStatement shapes (Savepoint name) = Unit {0}
FitsStatement shapes (RollbackTo name) = Unit {0}
FitsStatement shapes (Release name) = Unit {0}

-- only a READ ONLY transaction groups, and only another one writes
abbrev pub MayStand : Bool → Bound → Type 0
MayStand read_only (Select tables ons pred items) = Unit {0}
MayStand read_only (Group table pred key aggregate) = IsTrue read_only
MayStand read_only (Insert table row) = IsFalse read_only
MayStand read_only (Update table sets pred) = IsFalse read_only
MayStand read_only (Delete table pred) = IsFalse read_only
MayStand read_only (Savepoint name) = Unit {0}
MayStand read_only (RollbackTo name) = Unit {0}
MayStand read_only (Release name) = Unit {0}

-- ---- transactions and scripts

-- a transaction has at most so many statements; each fits, and may stand in it, and the savepoints that it names are open there
pub record FitsTxn (shapes : List Shape) (txn : Txn) : Type 0 where
  pub few : length txn.statements ≤ MOST_STATEMENTS
  pub fit : All (FitsStatement shapes) txn.statements
  pub stand : All (MayStand txn.read_only) txn.statements
  pub savepoints : AreOpened txn.statements

-- a session has at most so many transactions, each of which fits
pub record FitsSession (shapes : List Shape) (txns : List Txn) : Type 0 where
  pub few : length txns ≤ MOST_TXNS
  pub fit : All (FitsTxn shapes) txns

-- a script as it is run fits: its tables and sessions are at most as many as may be, and for the first rows of
-- each table there is room
pub record Fits (shapes : List Shape) (room : ℕ) (first : List (List (List Value))) (programs : List (List Txn)) : Type 0 where
  pub few_tables : length shapes ≤ MOST_TABLES
  pub tables : All FitsShape shapes
  pub first_rows : AllZip (FitsRows room) shapes first
  pub few_sessions : length programs ≤ MOST_SESSIONS
  pub sessions : All (FitsSession shapes) programs
