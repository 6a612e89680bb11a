-- Which entries are there when one comes or goes.
use Rattle.std.specs.Prelude.{◌≡◌, ◌≢◌, ◌⊎◌, ◌↔◌, List, Contains, filter}
use Rattle.hy_value.specs.declared.Value.{Value}
use Rattle.hy_index.specs.Entries.{IndexEntry, with_entry, without_entry, has_key}

-- with an entry that is added there are that one and the others
abbrev pub AddsOne : Type 0
AddsOne = (added other : IndexEntry) (entries : List IndexEntry) → Contains (with_entry added entries) other ↔ ((other ≡ added) ⊎ Contains entries other)

-- without an entry there are all others
abbrev pub TakesOne : Type 0
TakesOne = (removed other : IndexEntry) (entries : List IndexEntry) → Contains (without_entry removed entries) other ↔ (Contains entries other × (other ≢ removed))

-- those that are found have the key
abbrev pub FindsKeys : Type 0
FindsKeys = (key : Value) (other : IndexEntry) (entries : List IndexEntry) → Contains (filter (has_key key) entries) other ↔ (Contains entries other × (other.key ≡ key))
