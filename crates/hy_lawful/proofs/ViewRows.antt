-- Tables, entries and writes whose rows meet a demand, and what is laid over them.
use Rattle.std.proofs.Common.{◌≡◌, ℕ, zero, suc, ◌+◌, List, [], ◌∷◌, Option, None, Some, map, take, get_or, replicate, subst}
use Rattle.std.proofs.Math.ListN.{set}
use Rattle.std.specs.Prelude.{slice_get, IfSome}
use Rattle.std.specs.List.{AllByRecursion, range_with_len}
use Rattle.hy_value.specs.declared.Value.{Value}
use Rattle.hy_machine.specs.declared.Setting.{Setting}
use Rattle.hy_machine.specs.Tables.{Entry, Pair}
use Rattle.hy_machine.specs.Writes.{Write, blank_own, with_write, with_writes}
use Rattle.hy_machine.specs.Positions.{item_at}
use Rattle.hy_machine.specs.Tables.{Cell, Tables, Own, capacity, overlaid, covered, covered_tables, after_entry, history, laid_out, opening_tables}
use Rattle.hy_machine.specs.Sessions.{pairs_from, entry_cells}
use Rattle.hy_lawful.specs.Rows.{Demand}
use Rattle.hy_lawful.proofs.Lists.{all_taken}
use Rattle.hy_lawful.proofs.Tables.{got_of, set_all}

-- a cell of a table has a row that meets the demand, or none
abbrev pub CellMeets : Demand → ℕ → Cell → Type 0
CellMeets P table cell = IfSome cell (P table)

-- so it is for what stands at the positions of tables, by the cell that each thing there makes
abbrev pub AllMeet : {A : Type 0} → Demand → (A → Cell) → List (List A) → Type 0
AllMeet P f lists = (table : ℕ) → AllByRecursion (λ item. CellMeets P table (f item)) (get_or lists table [])

-- the cell that a thing makes, if there is one
abbrev pub cell_in : {B : Type 0} → (B → Cell) → Option B → Cell
cell_in f None = None
cell_in f (Some item) = f item

abbrev pub TablesMeet : Demand → Tables → Type 0
TablesMeet P tables = AllMeet P (λ (cell : Cell). cell) tables

abbrev pub OwnMeets : Demand → Own → Type 0
OwnMeets P own = AllMeet P (cell_in (λ (cell : Cell). cell)) own

abbrev pub EntryMeets : Demand → Entry → Type 0
EntryMeets P entry = AllMeet P (cell_in (λ (pair : Pair). pair.after)) entry.cells

abbrev pub WritesMeet : Demand → List Write → Type 0
WritesMeet P writes = AllByRecursion (λ (write : Write). CellMeets P write.table write.cell) writes

-- ---- writes

set_each : {X : Type 0} (Q : ℕ → X → Type 0) (xs : List X) (d : X) (at : ℕ) (x : X) → ((n : ℕ) → Q n (get_or xs n d)) → Q at x → (n : ℕ)
    → Q n (get_or (set xs at x) n d)
set_each Q [] d at x h q n = h n
set_each Q (y ∷ xs) d zero x h q zero = q
set_each Q (y ∷ xs) d zero x h q (suc n) = h (suc n)
set_each Q (y ∷ xs) d (suc at) x h q zero = h zero
set_each Q (y ∷ xs) d (suc at) x h q (suc n) = set_each (λ n. Q (suc n)) xs d at x (λ n. h (suc n)) q n

write_meets : (P : Demand) (own : Own) (write : Write) → OwnMeets P own → CellMeets P write.table write.cell
    → OwnMeets P (with_write own write)
write_meets P own write h w =
    set_each (λ table. AllByRecursion (λ (item : Option Cell). CellMeets P table (cell_in (λ (cell : Cell). cell) item)))
    own [] write.table (set (get_or own write.table []) write.pos (Some write.cell)) h
    (set_all (λ (item : Option Cell). CellMeets P write.table (cell_in (λ (cell : Cell). cell) item)) (get_or own write.table []) write.pos
    (Some write.cell) (h write.table) w)

pub writes_meet : (P : Demand) (own : Own) (writes : List Write) → OwnMeets P own → WritesMeet P writes
    → OwnMeets P (with_writes own writes)
writes_meet P own [] h w = h
writes_meet P own (write ∷ writes) h w = writes_meet P (with_write own write) writes (write_meets P own write h w.0) w.1

none_meets : (P : Demand) (table many : ℕ)
    → AllByRecursion (λ (item : Option Cell). CellMeets P table (cell_in (λ (cell : Cell). cell) item)) (replicate many None)
none_meets P table zero = tt
none_meets P table (suc many) = (tt, none_meets P table many)

blank_rows : (P : Demand) (most table at : ℕ) (first : List (List (List Value)))
    → AllByRecursion (λ (item : Option Cell). CellMeets P table (cell_in (λ (cell : Cell). cell) item))
    (get_or (map (λ rows. replicate {A = Option Cell} most None) first) at [])
blank_rows P most table at [] = tt
blank_rows P most table zero (rows ∷ first) = none_meets P table most
blank_rows P most table (suc at) (rows ∷ first) = blank_rows P most table at first

pub blank_meets : (P : Demand) (setting : Setting) → OwnMeets P (blank_own setting)
blank_meets P setting table = blank_rows P (capacity setting) table table setting.first

-- ---- tables with others laid over them

cells_over : {B : Type 0} (P : Cell → Type 0) (f : B → Cell) (cells : List Cell) (items : List (Option B)) → P None
    → AllByRecursion P cells → AllByRecursion (λ item. P (cell_in f item)) items → AllByRecursion P (overlaid (covered f) cells items)
cells_over P f [] items n h k = tt
cells_over P f (cell ∷ cells) [] n h k = h
cells_over P f (cell ∷ cells) (None ∷ items) n h k = (h.0, cells_over P f cells items n h.1 k.1)
cells_over P f (cell ∷ cells) (Some item ∷ items) n h k = (k.0, cells_over P f cells items n h.1 k.1)

tables_over : {B : Type 0} (P : ℕ → Cell → Type 0) (f : B → Cell) (tables : Tables) (lists : List (List (Option B))) → ((table : ℕ) → P table None)
    → ((table : ℕ) → AllByRecursion (P table) (get_or tables table []))
    → ((table : ℕ) → AllByRecursion (λ item. P table (cell_in f item)) (get_or lists table [])) → (table : ℕ)
    → AllByRecursion (P table) (get_or (covered_tables f tables lists) table [])
tables_over P f [] lists n h k table = tt
tables_over P f (cells ∷ tables) [] n h k table = h table
tables_over P f (cells ∷ tables) (items ∷ lists) n h k zero = cells_over (P zero) f cells items (n zero) (h zero) (k zero)
tables_over P f (cells ∷ tables) (items ∷ lists) n h k (suc table) =
    tables_over (λ at. P (suc at)) f tables lists (λ at. n (suc at)) (λ at. h (suc at)) (λ at. k (suc at)) table

pub over_meets : {B : Type 0} (P : Demand) (f : B → Cell) (tables : Tables) (lists : List (List (Option B))) → TablesMeet P tables
    → AllMeet P (cell_in f) lists → TablesMeet P (covered_tables f tables lists)
over_meets P f tables lists h k = tables_over (CellMeets P) f tables lists (λ table. tt) h k

history_meets : (P : Demand) (tables : Tables) (entries : List Entry) → TablesMeet P tables → AllByRecursion (EntryMeets P) entries
    → TablesMeet P (history tables entries)
history_meets P tables [] h k = h
history_meets P tables (entry ∷ entries) h k =
    history_meets P (after_entry tables entry) entries (over_meets P (λ (pair : Pair). pair.after) tables entry.cells h k.0) k.1

-- ---- the tables before any commit

row_meets : (Q : List Value → Type 0) (rows : List (List Value)) (i : ℕ) → AllByRecursion Q rows → IfSome (slice_get rows i) Q
row_meets Q [] i h = tt
row_meets Q (row ∷ rows) zero h = h.0
row_meets Q (row ∷ rows) (suc i) h = row_meets Q rows i h.1

laid_meets : (Q : List Value → Type 0) (rows : List (List Value)) (first many : ℕ) → AllByRecursion Q rows
    → AllByRecursion (λ (cell : Cell). IfSome cell Q) (map (slice_get rows) (range_with_len first many))
laid_meets Q rows first zero h = tt
laid_meets Q rows first (suc many) h = (row_meets Q rows first h, laid_meets Q rows (first + 1) many h)

all_laid : (P : Demand) (positions : ℕ) (first : List (List (List Value))) → ((table : ℕ) → AllByRecursion (P table) (get_or first table []))
    → (table : ℕ) → AllByRecursion (CellMeets P table) (get_or (map (laid_out positions) first) table [])
all_laid P positions [] h table = tt
all_laid P positions (rows ∷ first) h zero = laid_meets (P zero) rows 0 positions (h zero)
all_laid P positions (rows ∷ first) h (suc table) = all_laid (λ at. P (suc at)) positions first (λ at. h (suc at)) table

-- the tables after the first entries of an order
pub snapshot_meets : (P : Demand) (setting : Setting) (order : List Entry) (rank : ℕ)
    → ((table : ℕ) → AllByRecursion (P table) (get_or setting.first table [])) → AllByRecursion (EntryMeets P) order
    → TablesMeet P (history (opening_tables setting) (take rank order))
snapshot_meets P setting order rank first h =
    history_meets P (opening_tables setting) (take rank order) (all_laid P (capacity setting) setting.first first) (all_taken (EntryMeets P) rank order h)

-- ---- entries

pairs_meet : (P : Cell → Type 0) (before : ℕ → Cell) (pos : ℕ) (items : List (Option Cell)) → P None
    → AllByRecursion (λ (item : Option Cell). P (cell_in (λ (cell : Cell). cell) item)) items
    → AllByRecursion (λ (item : Option Pair). P (cell_in (λ (pair : Pair). pair.after) item)) (pairs_from before pos items)
pairs_meet P before pos [] n h = tt
pairs_meet P before pos (None ∷ items) n h = (n, pairs_meet P before (suc pos) items n h.1)
pairs_meet P before pos (Some item ∷ items) n h = (h.0, pairs_meet P before (suc pos) items n h.1)

cells_meet : (P : ℕ → Cell → Type 0) (tables : Tables) (first : ℕ) (own : Own) → ((table : ℕ) → P table None)
    → ((table : ℕ) → AllByRecursion (λ (item : Option Cell). P table (cell_in (λ (cell : Cell). cell) item)) (get_or own table [])) → (table : ℕ)
    → AllByRecursion (λ (item : Option Pair). P table (cell_in (λ (pair : Pair). pair.after) item)) (get_or (entry_cells tables first own) table [])
cells_meet P tables first [] n h table = tt
cells_meet P tables first (items ∷ own) n h zero = pairs_meet (P zero) (item_at tables first) 0 items (n zero) (h zero)
cells_meet P tables first (items ∷ own) n h (suc table) =
    cells_meet (λ at. P (suc at)) tables (suc first) own (λ at. n (suc at)) (λ at. h (suc at)) table

-- what a transaction wrote, as the cells of an entry
pub entry_meets : (P : Demand) (tables : Tables) (own : Own) → OwnMeets P own
    → AllMeet P (cell_in (λ (pair : Pair). pair.after)) (entry_cells tables 0 own)
entry_meets P tables own h = cells_meet (CellMeets P) tables 0 own (λ table. tt) h

-- ---- one cell

pub cell_meets : (P : Demand) (tables : Tables) (table pos : ℕ) → TablesMeet P tables → CellMeets P table (item_at tables table pos)
cell_meets P tables table pos h = got_of (CellMeets P table) (get_or tables table []) pos None (h table) tt

pub own_cell_meets : (P : Demand) (own : Own) (table pos : ℕ) (cell : Cell) → OwnMeets P own → item_at own table pos ≡ Some cell
    → CellMeets P table cell
own_cell_meets P own table pos cell h e =
    subst (λ (item : Option Cell). CellMeets P table (cell_in (λ (cell : Cell). cell) item)) e
    (got_of (λ (item : Option Cell). CellMeets P table (cell_in (λ (cell : Cell). cell) item)) (get_or own table []) pos None (h table) tt)

pub after_meets : (P : Demand) (entry : Entry) → EntryMeets P entry → (table pos : ℕ) (pair : Pair) → item_at entry.cells table pos ≡ Some pair
    → CellMeets P table pair.after
after_meets P entry h table pos pair e =
    subst (λ (item : Option Pair). CellMeets P table (cell_in (λ (pair : Pair). pair.after) item)) e
    (got_of (λ (item : Option Pair). CellMeets P table (cell_in (λ (pair : Pair). pair.after) item)) (get_or entry.cells table []) pos None (h table) tt)
