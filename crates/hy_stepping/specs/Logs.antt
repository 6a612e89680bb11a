-- The journal of a run can be recovered: its entries stand on the first tables, and leave the tables of the machine.
use Rattle.std.specs.Prelude.{◌≡◌, ℕ, List, None, Ok, map, take}
use Rattle.hy_value.specs.declared.Kind.{Kind}
use Rattle.hy_log_record.specs.declared.HeldTable.{HeldTable}
use Rattle.hy_event.specs.declared.SessionData.{SessionData}
use Rattle.hy_event.specs.Events.{Part}
use Rattle.hy_machine.specs.declared.Setting.{Setting}
use Rattle.hy_machine.specs.States.{State}
use Rattle.hy_machine.specs.Sessions.{snapshot}
use Rattle.hy_redo.specs.Tables.{applied, AllStand}
use Rattle.hy_redo.specs.Logs.{IsLogOf}
use Rattle.hy_redo.specs.Recovery.{Recovers}
use Rattle.hy_stepping.specs.Runnable.{IsShown}
use Rattle.hy_stepping.specs.Texts.{CanBeLogged}
use Rattle.hy_recovery.specs.Recovered.{first_tables}

-- Where the engine shows a state that the machine comes to, and what is run can be kept in a log, each entry of its journal
-- stands on the first tables with the entries before it: it is of their columns, in order, each of its changes begins
-- from the row that stands there, and its time is behind theirs.
abbrev pub EntriesStand : Type 0
EntriesStand =
    (setting : Setting) (kinds : List (List Kind)) (state : State) (parts : List Part) (sessions : List SessionData)
    → (shown : IsShown setting state parts sessions) → CanBeLogged kinds setting
    → AllStand (first_tables kinds setting) None shown.shows.core.entries

-- And the tables after the first of its entries, however many, are the machine's after as many of its commit order.
abbrev pub EntriesLeaveTables : Type 0
EntriesLeaveTables =
    (setting : Setting) (kinds : List (List Kind)) (state : State) (parts : List Part) (sessions : List SessionData)
    → (shown : IsShown setting state parts sessions) → CanBeLogged kinds setting → (count : ℕ)
    → map (λ (table : HeldTable). table.rows) (applied (first_tables kinds setting) (take count shown.shows.core.entries)) ≡ snapshot setting state count

-- So the log of the first of its entries, however many, recovers to tables whose rows are the machine's after as many.
abbrev pub LogsRecoverTables : Type 0
LogsRecoverTables =
    (setting : Setting) (kinds : List (List Kind)) (state : State) (parts : List Part) (sessions : List SessionData)
    → (shown : IsShown setting state parts sessions) → CanBeLogged kinds setting
    → (count gate : ℕ) (bytes : List ℕ) → IsLogOf (take count shown.shows.core.entries) gate bytes
    → (found : List HeldTable) × Recovers (first_tables kinds setting) bytes (Ok found)
    × (map (λ (table : HeldTable). table.rows) found ≡ snapshot setting state count)
