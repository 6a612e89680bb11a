-- What serving leaves in a redo log, whatever moment a crash comes at.
use Rattle.std.specs.Prelude.{◌≡◌, ◌⊎◌, ℕ, ◌≤◌, List, [], Option, None, Some, IfSome, map, take}
use Rattle.hy_value.specs.declared.Kind.{Kind}
use Rattle.hy_journal.specs.declared.Entry.{Entry}
use Rattle.hy_lines.specs.Lines.{lines_in}
use Rattle.hy_log_record.specs.declared.HeldTable.{HeldTable}
use Rattle.hy_outside.specs.Telling.{Gives}
use Rattle.hy_recovery.specs.Recovered.{AreRecovered, first_tables}
use Rattle.hy_redo.specs.Logs.{IsLogOf}
use Rattle.hy_render.specs.declared.Outcome.{Outcome}
use Rattle.hy_script.specs.declared.Options.{Options}
use Rattle.hy_setting.specs.Kinds.{catalog_kinds}
use Rattle.hy_stepping.specs.Outcomes.{told_entry}
use Rattle.hy_stepping.specs.Texts.{CanBeLogged}
use Rattle.hy_world.specs.Logged.{IsKept, IsLogOfRun, LogsRun}
use Rattle.hy_world.specs.Worlds.{WorldData}
use Rattle.hy_service.specs.Knowing.{ServerData}
use Rattle.hy_service.specs.Service.{Service, after, outcome_at, setting_of}

-- ---- a server

-- the entries of the journal: none where there is no world yet
abbrev pub entries_in : Option WorldData → List Entry
entries_in None = []
entries_in (Some world) = world.core.entries

-- where a server keeps a log, a crash now leaves that of its entries
abbrev pub KeepsUp : {D : Type 0} → (D → List ℕ → Type 0) → ServerData → D → Type 0
KeepsUp image server disk = IsKept image (entries_in server.world) server.log disk

-- ---- a service

abbrev pub kinds_at : Service → List (List Kind)
kinds_at service = catalog_kinds service.desk.sofar.catalog

-- the tables that were defined, before any commit
abbrev pub tables_at : Options → Service → List HeldTable
tables_at options service = first_tables (kinds_at service) (setting_of options service)

-- what is served can be kept in a log
abbrev pub CanLog : Options → Service → Type 0
CanLog options service = CanBeLogged (kinds_at service) (setting_of options service)

-- the bytes are the log of some first entries of the commit order, and recover to the tables after these
abbrev pub IsLogAt : Options → Service → List ℕ → Type 0
IsLogAt options service bytes = IsLogOfRun (setting_of options service) (kinds_at service) service.state bytes

-- a crash at any moment between these two leaves what one could leave before, or such a log
abbrev pub LogsAt : {D : Type 0} → (D → ℕ) → (D → ℕ → List ℕ → Type 0) → Options → Service → D → D → Type 0
LogsAt clock image_since options service first last =
    LogsRun clock image_since (setting_of options service) (kinds_at service) service.state first last

-- the bytes are the log of the outcome's commit order, and recover to its tables
pub record IsWholeLogAt (options : Options) (service : Service) (outcome : Outcome) (bytes : List ℕ) : Type 0 where
  pub entries : List Entry
  pub tell : map told_entry entries ≡ outcome.order
  pub gate : ℕ
  pub log : IsLogOf entries gate bytes
  pub recovers : AreRecovered (tables_at options service) bytes outcome.tables

-- the outcome is that of the service, and each of these images is its log
pub record AreWholeLogsAt (images : List ℕ → Type 0) (options : Options) (service : Service) (outcome : Outcome) : Type 0 where
  pub is : outcome ≡ outcome_at options service
  pub each : (bytes : List ℕ) → images bytes → IsWholeLogAt options service outcome bytes

-- ---- lines

-- the bytes are the log of some first entries of the commit order that some first ones of these lines come to, and recover to the tables
-- after these entries
abbrev pub IsLogOfSome : Options → List (List ℕ) → List ℕ → Type 0
IsLogOfSome options lines bytes = (count : ℕ) × IsLogAt options (after options (take count lines)) bytes

-- Lines were served: a crash at any moment between these two leaves what one could leave before, or such a log of theirs.
pub record LogsLines {D : Type 0} (clock : D → ℕ) (image_since : D → ℕ → List ℕ → Type 0) (options : Options) (first last : D)
    (lines : List (List ℕ)) : Type 0 where
  pub later : clock first ≤ clock last
  pub moments : (time : ℕ) (bytes : List ℕ) → time ≤ clock first → image_since last time bytes
      → image_since first time bytes ⊎ IsLogOfSome options lines bytes

-- A source gave these bytes, and their lines were served: so it is with the log that was kept of them. Where there is an outcome, a crash
-- now leaves the log of its commit order, which recovers to its tables.
pub record LogsServing {D : Type 0} (clock : D → ℕ) (image : D → List ℕ → Type 0) (image_since : D → ℕ → List ℕ → Type 0) (options : Options)
    (old new : Option (List ℕ)) (status : ℕ) (outcome : Option Outcome) (first last : D) : Type 0 where
  pub bytes : List ℕ
  pub gives : Gives old new bytes
  pub logs : LogsLines clock image_since options first last (lines_in bytes)
  pub now : IfSome outcome (λ given. (count : ℕ) × AreWholeLogsAt (image last) options (after options (take count (lines_in bytes))) given)
  pub of_all : status ≡ 0 → IfSome outcome (λ given. AreWholeLogsAt (image last) options (after options (lines_in bytes)) given)
