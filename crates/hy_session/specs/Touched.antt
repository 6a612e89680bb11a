-- Whether changes that others committed are in tables that a transaction read.
use Rattle.std.specs.Prelude.{ℕ, List, Bool, ◌==◌}
use Rattle.std.specs.List.{list_any}
use Rattle.hy_bound.specs.declared.Record.{Record}
use Rattle.hy_value.specs.declared.change.Change.{Change}
use Rattle.hy_journal.specs.declared.Entry.{Entry}

-- a record is of a table
abbrev pub reads_table : List Record → ℕ → Bool
reads_table records table = list_any (λ logged. logged.table == table) records

-- a change is in a table that a record is of
abbrev pub reads_of : List Record → List Change → Bool
reads_of records changes = list_any (λ change. reads_table records change.table) changes

-- an entry has such a change
abbrev pub are_touched : List Record → List Entry → Bool
are_touched records entries = list_any (λ entry. reads_of records entry.notes) entries
