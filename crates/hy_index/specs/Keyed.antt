-- Which entry is kept.
use Rattle.hy_value.specs.declared.Value.{Value}
use Rattle.hy_index.specs.declared.ascending.Entry.{Entry}
use Rattle.hy_index.specs.Entries.{IndexEntry}

-- an entry whose key has this value
abbrev pub entry_of : {K : Type 0} → (K → Value) → Entry K → IndexEntry
entry_of value e = record { key = value e.key; pos = e.pos }
