-- Which entries stand on tables, and the tables after them.
use Rattle.std.specs.Prelude.{◌≡◌, ℕ, zero, suc, ◌<◌, List, [], ◌∷◌, Bool, true, ◌&&◌, IsTrue, Option, None, Some, slice_get, slice_set}
use Rattle.std.specs.List.{AllByRecursion}
use Rattle.std.specs.Option.{option_and_then}
use Rattle.std.specs.Ordering.{is_lt, ordering_then, nat_cmp}
use Rattle.hy_value.specs.declared.change.Change.{Change}
use Rattle.hy_notes.specs.Notes.{Cell}
use Rattle.hy_journal.specs.declared.Entry.{Entry}
use Rattle.hy_log_record.specs.declared.HeldTable.{HeldTable}
use Rattle.hy_log_record.specs.Bytes.{net_of}
use Rattle.hy_log_record.specs.Bodies.{IsEntryOf}

-- tables by number, each with its rows by position
abbrev pub Held : Type 0
Held = List HeldTable

-- what stands at a position of a table, where there is this position
abbrev pub held_at : Held → ℕ → ℕ → Option Cell
held_at tables table pos = option_and_then (λ (held : HeldTable). slice_get held.rows pos) (slice_get tables table)

-- ---- the tables after entries

abbrev pub with_cell : ℕ → Cell → HeldTable → HeldTable
with_cell pos cell table = record { kinds = table.kinds; rows = slice_set table.rows pos cell }

-- the tables with one of them changed
abbrev pub with_table : ℕ → (HeldTable → HeldTable) → Held → Held
with_table number change [] = []
with_table zero change (table ∷ tables) = change table ∷ tables
with_table (suc number) change (table ∷ tables) = table ∷ with_table number change tables

-- the tables with the row after of each change at its position
abbrev pub after_changes : Held → List Change → Held
after_changes tables [] = tables
after_changes tables (change ∷ changes) = with_table change.table (with_cell change.pos change.after) (after_changes tables changes)

abbrev pub after_entry : Held → Entry → Held
after_entry tables entry = after_changes tables (net_of entry)

-- the tables after entries, the first of them first
abbrev pub applied : Held → List Entry → Held
applied tables [] = tables
applied tables (entry ∷ entries) = applied (after_entry tables entry) entries

-- ---- which entries stand

-- whether a change is of a position behind this one, by table and then position
abbrev pub is_past : ℕ → ℕ → Change → Bool
is_past table pos change = is_lt (ordering_then (nat_cmp table change.table) (nat_cmp pos change.pos))

-- whether each is of a position behind this one, and behind those before it
abbrev pub rise_past : ℕ → ℕ → List Change → Bool
rise_past table pos [] = true
rise_past table pos (change ∷ changes) = is_past table pos change && rise_past change.table change.pos changes

abbrev pub rise : List Change → Bool
rise [] = true
rise (change ∷ changes) = rise_past change.table change.pos changes

-- a change begins from the row that stands there
abbrev pub BeginsFrom : Held → Change → Type 0
BeginsFrom tables change = held_at tables change.table change.pos ≡ Some change.before

-- a time behind the last one, where there was one
abbrev pub IsBehind : Option ℕ → ℕ → Type 0
IsBehind None time = Unit {0}
IsBehind (Some last) time = last < time

-- The entry stands on these tables behind this time: its net changes are of their columns, in order, and within the tables,
-- and each begins from the row that stands there.
pub record Stands (tables : Held) (last : Option ℕ) (entry : Entry) : Type 0 where
  pub of : IsEntryOf tables entry
  pub order : IsTrue (rise (net_of entry))
  pub begins : AllByRecursion (BeginsFrom tables) (net_of entry)
  pub behind : IsBehind last entry.time

-- each entry stands on the tables after those before it
abbrev pub AllStand : Held → Option ℕ → List Entry → Type 0
AllStand tables last [] = Unit {0}
AllStand tables last (entry ∷ entries) = Stands tables last entry × AllStand (after_entry tables entry) (Some entry.time) entries

-- the time of the last entry
abbrev pub last_time : Option ℕ → List Entry → Option ℕ
last_time last [] = last
last_time last (entry ∷ entries) = last_time (Some entry.time) entries
