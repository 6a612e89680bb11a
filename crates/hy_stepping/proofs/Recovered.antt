-- The log of the first entries of a journal that stands recovers to the tables that they leave.
use Rattle.std.proofs.Common.{ℕ, zero, suc, List, [], ◌∷◌, Option, None, Some, take}
use Rattle.hy_journal.specs.declared.Entry.{Entry}
use Rattle.hy_redo.specs.Laws.{LogsRecover}
use Rattle.hy_redo.specs.Tables.{Held, after_entry, applied, AllStand}
use Rattle.hy_stepping.specs.Logs.{EntriesStand, EntriesLeaveTables, LogsRecoverTables}
use Rattle.hy_recovery.specs.Recovered.{first_tables}

-- of entries that stand the first ones stand
first_stand : (tables : Held) (last : Option ℕ) (entries : List Entry) (count : ℕ) → AllStand tables last entries → AllStand tables last (take count entries)
first_stand tables last entries zero h = tt
first_stand tables last [] (suc count) h = tt
first_stand tables last (entry ∷ entries) (suc count) h = (h.0, first_stand (after_entry tables entry) (Some entry.time) entries count h.1)

pub logs_recover : EntriesStand → EntriesLeaveTables → LogsRecover → LogsRecoverTables
logs_recover stand leave recover setting kinds state parts sessions shown typed count gate bytes log =
    let first : List Entry = take count shown.shows.core.entries in (
      applied (first_tables kinds setting) first,
      recover (first_tables kinds setting) first gate bytes
          (first_stand (first_tables kinds setting) None shown.shows.core.entries count (stand setting kinds state parts sessions shown typed)) log,
      leave setting kinds state parts sessions shown typed count,
    )
