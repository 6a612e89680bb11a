-- That the bytes of a body are of one entry, up to what is noted of positions that had no row and have none.
use Rattle.std.specs.Prelude.{◌≡◌, ℕ, ◌<◌, ◌^◌, List, ◌++◌, length}
use Rattle.hy_journal.specs.declared.Entry.{Entry}
use Rattle.hy_log_record.specs.declared.HeldTable.{HeldTable}
use Rattle.hy_log_record.specs.Bytes.{be64, net_of, record_of, HasBytes}
use Rattle.hy_log_record.specs.Bodies.{IsEntryOf, IsBody}

-- one label, start, time and net changes
abbrev pub netted : Entry → Entry
netted entry = record entry { notes = net_of entry }

abbrev pub BodiesAreOne : Type 0
BodiesAreOne = (tables : List HeldTable) (entry other : Entry) (bytes : List ℕ) → IsBody tables entry bytes → IsBody tables other bytes
    → netted entry ≡ netted other

-- bytes behind their length tell where they end
abbrev pub LengthsTell : Type 0
LengthsTell = (body other rest follows : List ℕ) → length body < 2 ^ 64 → length other < 2 ^ 64
    → be64 (length body) ++ (body ++ rest) ≡ be64 (length other) ++ (other ++ follows) → (body ≡ other) × (rest ≡ follows)

-- so the record of an entry at the front of bytes tells the entry, and what follows it
abbrev pub RecordsAreOne : Type 0
RecordsAreOne = (tables : List HeldTable) (entry other : Entry) (rest follows : List ℕ) → HasBytes entry → IsEntryOf tables entry → HasBytes other
    → IsEntryOf tables other
    → record_of entry ++ rest ≡ record_of other ++ follows → (netted entry ≡ netted other) × (rest ≡ follows)
