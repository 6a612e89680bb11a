-- Tables as lists of cells, one for each position, and what a list of commits makes of them.
use Rattle.std.specs.Prelude.{ℕ, ◌*◌, ◌/◌, List, [], ◌∷◌, Option, None, Some, map, slice_get}
use Rattle.std.specs.List.{range_with_len}
use Rattle.hy_value.specs.declared.Value.{Value}
use Rattle.hy_stamp.specs.declared.Label.{Label}
use Rattle.hy_machine.specs.declared.Setting.{Setting}

-- a position: a row, or none
abbrev pub Cell : Type 0
Cell = Option (List Value)

-- the tables by number, each a cell for each position
abbrev pub Tables : Type 0
Tables = List (List Cell)

-- what a transaction wrote, by table and position: nothing, or a cell
abbrev pub Own : Type 0
Own = List (List (Option Cell))

-- what an entry of the commit order did at a position: the cell that its transaction saw at its start, and the one
-- that it left
pub record Pair : Type 0 where
  pub before : Cell
  pub after : Cell

-- an entry of the commit order: the transaction that committed, and what it did, by table and position
pub record Entry : Type 0 where
  pub label : Label
  pub cells : List (List (Option Pair))

-- how many positions a table has
abbrev pub capacity : Setting → ℕ
capacity setting = setting.chunks * setting.rows

-- the positions of a chunk, ascending
abbrev pub positions_in : Setting → ℕ → List ℕ
positions_in setting chunk = range_with_len (chunk * setting.rows) setting.rows

-- the chunk of a position
abbrev pub chunk_of : Setting → ℕ → ℕ
chunk_of setting pos = pos / setting.rows

-- a list with others laid over it, item by item; behind the end of the others it stays
abbrev pub overlaid : {A B : Type 0} → (A → B → A) → List A → List B → List A
overlaid f [] others = []
overlaid f (x ∷ xs) [] = x ∷ xs
overlaid f (x ∷ xs) (y ∷ ys) = f x y ∷ overlaid f xs ys

-- a cell, or the one that stands over it
abbrev pub covered : {B : Type 0} → (B → Cell) → Cell → Option B → Cell
covered f cell None = cell
covered f cell (Some item) = f item

-- tables with other cells over some of theirs
abbrev pub covered_tables : {B : Type 0} → (B → Cell) → Tables → List (List (Option B)) → Tables
covered_tables f = overlaid (overlaid (covered f))

-- the tables with a transaction's own writes over them
abbrev pub over : Tables → Own → Tables
over = covered_tables (λ own. own)

-- the tables after an entry
abbrev pub after_entry : Tables → Entry → Tables
after_entry tables entry = covered_tables (λ (pair : Pair). pair.after) tables entry.cells

-- the tables after entries, the first of them first
abbrev pub history : Tables → List Entry → Tables
history tables [] = tables
history tables (entry ∷ entries) = history (after_entry tables entry) entries

-- rows at the first positions of a table with so many, and no rows behind them
abbrev pub laid_out : ℕ → List (List Value) → List Cell
laid_out positions rows = map (slice_get rows) (range_with_len 0 positions)

-- the tables before any commit
abbrev pub opening_tables : Setting → Tables
opening_tables setting = map (laid_out (capacity setting)) setting.first
