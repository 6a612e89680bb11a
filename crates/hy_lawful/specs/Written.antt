-- What a transaction writes: each row that stood at its start is followed through its statements.
use Rattle.std.specs.Prelude.{◌≡◌, ℕ, ◌*◌, ◌/◌, List, [], ◌∷◌, Bool, true, false, ◌&&◌, ◌||◌, ◌==◌, nat_lt, IsTrue, IfSome}
use Rattle.std.specs.Prelude.{Option, None, Some, is_none, if◌then◌else◌}
use Rattle.std.specs.Prelude.{zip, count_by, length, take, map, option_and_then}
use Rattle.std.specs.List.{list_any, range_with_len}
use Rattle.hy_bound.specs.declared.Bound.{Bound}
use Rattle.hy_bound.specs.declared.Bound.TheVariants.{Select, Group, Insert, Update, Delete, Savepoint, RollbackTo, Release}
use Rattle.hy_bound.specs.declared.Reply.{Reply}
use Rattle.hy_bound.specs.declared.Reply.TheVariants as reply
use Rattle.hy_bound.specs.Predicate.{truth_at}
use Rattle.hy_bound.specs.Assignment.{assigned}
use Rattle.hy_bound.specs.Savepoints.{Saved, saved_after, value_after}
use Rattle.hy_value.specs.declared.change.Change.{Change}
use Rattle.hy_bound.specs.declared.Ending.{Ending}
use Rattle.hy_bound.specs.declared.Ending.TheVariants.{Committed, Read, RolledBack, Conflict, Invalid, Range, Full}
use Rattle.hy_render.specs.declared.Place.{Place}
use Rattle.hy_render.specs.declared.TxnOutcome.{TxnOutcome}
use Rattle.hy_render.specs.declared.Committed.{Committed as Entry}
use Rattle.hy_machine.specs.declared.Setting.{Setting}
use Rattle.hy_machine.specs.Tables.{Cell}
use Rattle.hy_lawful.specs.Scripts.{Programs, statements_of}
use Rattle.hy_lawful.specs.Outcomes.{refused_statement}
use Rattle.hy_lawful.specs.Endings.{inserts}
use Rattle.hy_lawful.specs.Cells.{cell_at}
use Rattle.hy_lawful.specs.Passing.{has_place}
use Rattle.hy_lawful.specs.Positions.{places_of}

-- ---- transactions that write nothing

-- whether a statement is an INSERT, an UPDATE or a DELETE
abbrev pub is_change : Bound → Bool
is_change (Select tables ons pred items) = false
is_change (Group of pred key aggregate) = false
is_change (Insert of row) = true
is_change (Update of sets pred) = true
is_change (Delete of pred) = true
is_change (Savepoint name) = false
is_change (RollbackTo name) = false
is_change (Release name) = false

-- a transaction none of whose statements is one has written nothing
abbrev pub ReadersWriteNothing : Setting → TxnOutcome → Type 0
ReadersWriteNothing setting txn = list_any is_change (statements_of setting.programs txn.label) ≡ false → txn.wrote ≡ []

-- ---- inserts

abbrev pub is_inserted : Reply → Bool
is_inserted (reply.Rows rows) = false
is_inserted (reply.Value total) = false
is_inserted (reply.Groups groups) = false
is_inserted reply.Inserted = true
is_inserted reply.Duplicate = false
is_inserted (reply.Updated count) = false
is_inserted (reply.Deleted count) = false
is_inserted reply.Saved = false
is_inserted reply.Back = false
is_inserted reply.Released = false

-- how many INSERTs into a table were answered by `inserted`
abbrev pub inserted_in : List Bound → List Reply → ℕ → ℕ
inserted_in statements replies table =
    count_by (λ (answer : Bound × Reply). inserts table (Some answer.0) && is_inserted answer.1) (zip statements replies)

-- a transaction placed as many inserts in each table as were answered so
abbrev pub PlacesWhatItInserts : Setting → TxnOutcome → Type 0
PlacesWhatItInserts setting txn =
    map (inserted_in (statements_of setting.programs txn.label) txn.replies) (range_with_len 0 (length setting.first)) ≡ txn.placed

-- how many positions of a table a transaction wrote where no row stood at its start
abbrev pub new_in : Setting → List Entry → TxnOutcome → ℕ → ℕ
new_in setting order txn table =
    count_by (λ (place : Place). place.table == table && is_none (cell_at setting order txn.start place.table place.pos)) txn.wrote

-- a transaction wrote as many such positions of each table as it placed inserts there
abbrev pub WritesWhatItPlaces : Setting → List Entry → TxnOutcome → Type 0
WritesWhatItPlaces setting order txn = map (new_in setting order txn) (range_with_len 0 (length setting.first)) ≡ txn.placed

-- ---- rows that stood at the start

-- whether a statement is an UPDATE or DELETE of a table that selects what stands in a cell of it
abbrev pub writes : ℕ → Bound → Cell → Bool
writes table (Select tables ons pred items) cell = false
writes table (Group of pred key aggregate) cell = false
writes table (Insert of row) cell = false
writes table (Update of sets pred) cell = of == table && truth_at pred cell
writes table (Delete of pred) cell = of == table && truth_at pred cell
writes table (Savepoint name) cell = false
writes table (RollbackTo name) cell = false
writes table (Release name) cell = false

-- what a statement leaves in a cell that it writes: an UPDATE the row as it is set, a DELETE nothing
abbrev pub left_by : Bound → Cell → Cell
left_by (Select tables ons pred items) cell = cell
left_by (Group of pred key aggregate) cell = cell
left_by (Insert of row) cell = cell
left_by (Update of sets pred) cell = option_and_then (assigned sets) cell
left_by (Delete of pred) cell = None
left_by (Savepoint name) cell = cell
left_by (RollbackTo name) cell = cell
left_by (Release name) cell = cell

-- a cell after what a statement writes there
abbrev pub after_one : ℕ → Bound → Cell → Cell
after_one table statement cell = if writes table statement cell then left_by statement cell else cell

-- going back to a cell: it is the one that was kept
abbrev pub cell_back : Cell → Cell → Cell
cell_back was now = was

-- what savepoints keep of a cell after a statement, and the cell then: ROLLBACK TO goes back to the one that is kept
abbrev pub cells_saved : ℕ → Bound → List (Saved Cell) → Cell → List (Saved Cell)
cells_saved table statement saved cell = saved_after statement saved (after_one table statement cell)

abbrev pub cell_left : ℕ → Bound → List (Saved Cell) → Cell → Cell
cell_left table statement saved cell = value_after cell_back statement saved (after_one table statement cell)

-- a cell followed through statements, of which savepoints keep this at first
abbrev pub followed_from : ℕ → List (Saved Cell) → List Bound → Cell → Cell
followed_from table saved [] cell = cell
followed_from table saved (statement ∷ statements) cell =
    followed_from table (cells_saved table statement saved cell) statements (cell_left table statement saved cell)

-- a cell followed through the statements of a transaction
abbrev pub followed : ℕ → List Bound → Cell → Cell
followed table statements cell = followed_from table [] statements cell

-- the row that an answered statement inserted into a table, if it inserted one there
abbrev pub row_inserted : ℕ → Bound → Reply → Cell
row_inserted table (Select tables ons pred items) reply = None
row_inserted table (Group of pred key aggregate) reply = None
row_inserted table (Insert of row) reply = if of == table && is_inserted reply then Some row else None
row_inserted table (Update of sets pred) reply = None
row_inserted table (Delete of pred) reply = None
row_inserted table (Savepoint name) reply = None
row_inserted table (RollbackTo name) reply = None
row_inserted table (Release name) reply = None

-- whether some row that answered statements inserted into a table passes a test, followed through the statements behind;
-- savepoints that were made before it keep no row at its place
abbrev pub some_inserted_from : (Cell → Bool) → ℕ → List (Saved Cell) → List Bound → List Reply → Bool
some_inserted_from test table saved [] replies = false
some_inserted_from test table saved (statement ∷ statements) [] = false
some_inserted_from test table saved (statement ∷ statements) (reply ∷ replies) =
    test (followed_from table (saved_after statement saved None) statements (row_inserted table statement reply))
    || some_inserted_from test table (saved_after statement saved None) statements replies

-- the same of all answered statements of a transaction
abbrev pub some_inserted : (Cell → Bool) → ℕ → List Bound → List Reply → Bool
some_inserted test table statements replies = some_inserted_from test table [] statements replies

-- whether one of these statements writes a cell, as it is followed through those before, taken back later or not
abbrev pub some_writes_from : ℕ → List (Saved Cell) → List Bound → Cell → Bool
some_writes_from table saved [] cell = false
some_writes_from table saved (statement ∷ statements) cell =
    writes table statement cell
    || some_writes_from table (cells_saved table statement saved cell) statements (cell_left table statement saved cell)

-- whether one of the statements of a transaction does
abbrev pub some_writes : ℕ → List Bound → Cell → Bool
some_writes table statements cell = some_writes_from table [] statements cell

-- of a statement, if there is one: whether it writes a cell
abbrev pub would_write : ℕ → Option Bound → Cell → Bool
would_write table None cell = false
would_write table (Some statement) cell = writes table statement cell

-- the position of a table at which a transaction was refused
abbrev pub refused_at : ℕ → Ending → Option ℕ
refused_at table (Committed rank) = None
refused_at table Read = None
refused_at table RolledBack = None
refused_at table (Conflict of pos other) = if of == table then Some pos else None
refused_at table (Invalid of pos other statement) = None
refused_at table (Range of pos) = if of == table then Some pos else None
refused_at table (Full of) = None

-- whether a position lies in a chunk before that of another
abbrev pub is_in_chunk_before : ℕ → Option ℕ → ℕ → Bool
is_in_chunk_before rows None pos = false
is_in_chunk_before rows (Some other) pos = nat_lt pos ((other / rows) * rows)

-- the statements that a transaction answered
abbrev pub answered_statements : Programs → TxnOutcome → List Bound
answered_statements programs txn = take (length txn.replies) (statements_of programs txn.label)

-- whether a transaction has written a position, by what stood there at its start: an answered statement writes it,
-- or the refused one does and had come past its chunk
abbrev pub has_written : Setting → TxnOutcome → ℕ → ℕ → Cell → Bool
has_written setting txn table pos cell = some_writes table (answered_statements setting.programs txn) cell
    || (is_in_chunk_before setting.rows (refused_at table txn.ending) pos
    && would_write table (refused_statement setting.programs txn) (followed table (answered_statements setting.programs txn) cell))

-- of the rows that stood at its start a transaction wrote exactly those that its statements select
abbrev pub WritesWhatItSelects : Setting → List Entry → TxnOutcome → Type 0
WritesWhatItSelects setting order txn = (table pos : ℕ)
    → IfSome (cell_at setting order txn.start table pos) (λ row. has_place txn.wrote table pos ≡ has_written setting txn table pos (Some row))

-- an entry changes each position that a transaction wrote where a row stood at its start
abbrev pub ChangesWhatWasWritten : Setting → List Entry → TxnOutcome → Entry → Type 0
ChangesWhatWasWritten setting order txn entry = (table pos : ℕ) → IsTrue (has_place txn.wrote table pos)
    → IfSome (cell_at setting order txn.start table pos) (λ row. IsTrue (has_place (places_of entry.changes) table pos))

-- a change of a committed transaction at a position where a row stood at its start leaves that row, followed through
-- its statements
abbrev pub LeavesWhatFollows : Setting → List Entry → TxnOutcome → Change → Type 0
LeavesWhatFollows setting order txn change =
    IfSome (cell_at setting order txn.start change.table change.pos)
    (λ row. change.after ≡ followed change.table (answered_statements setting.programs txn) (Some row))
