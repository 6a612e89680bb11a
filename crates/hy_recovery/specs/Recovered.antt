-- The tables that a setting begins with, and what bytes of a redo log make of their rows.
use Rattle.std.specs.Prelude.{◌≡◌, ℕ, List, Ok, map}
use Rattle.std.specs.List.{zip}
use Rattle.hy_value.specs.declared.Kind.{Kind}
use Rattle.hy_value.specs.declared.Value.{Value}
use Rattle.hy_log_record.specs.declared.HeldTable.{HeldTable}
use Rattle.hy_machine.specs.declared.Setting.{Setting}
use Rattle.hy_machine.specs.Tables.{Cell, opening_tables}
use Rattle.hy_machine.specs.Outcomes.{rows_sorted}
use Rattle.hy_redo.specs.Recovery.{Recovers}

-- a table of columns of these kinds, with these cells by position
abbrev pub held : List Kind → List Cell → HeldTable
held kinds cells = record { kinds = kinds; rows = cells }

-- tables of these kinds, with these cells: the first kinds with the first cells, and so on, up to where one list ends
abbrev pub held_tables : List (List Kind) → List (List Cell) → List HeldTable
held_tables kinds tables = map (λ (columns, cells). held columns cells) (zip kinds tables)

-- the tables before any commit, of these kinds
abbrev pub first_tables : List (List Kind) → Setting → List HeldTable
first_tables kinds setting = held_tables kinds (opening_tables setting)

-- the rows of each table, ascending
abbrev pub rows_of : List HeldTable → List (List (List Value))
rows_of tables = map (λ (table : HeldTable). rows_sorted table.rows) tables

-- these are the rows of the tables that the bytes make of these
abbrev pub AreRecovered : List HeldTable → List ℕ → List (List (List Value)) → Type 0
AreRecovered tables bytes rows = (found : List HeldTable) × Recovers tables bytes (Ok found) × (rows ≡ rows_of found)
