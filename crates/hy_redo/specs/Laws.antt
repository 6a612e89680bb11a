-- Laws of recovery.
use Rattle.std.specs.Prelude.{◌≡◌, ◌⊎◌, ℕ, List, ◌++◌, None, Result, Ok}
use Rattle.hy_journal.specs.declared.Entry.{Entry}
use Rattle.hy_redo.specs.Tables.{Held, AllStand, applied}
use Rattle.hy_redo.specs.Logs.{IsLogOf}
use Rattle.hy_redo.specs.Crashes.{IsBeforeOrAfter}
use Rattle.hy_redo.specs.Recovery.{Recovers}

-- bytes recover to one thing
abbrev pub RecoveryIsOne : Type 0
RecoveryIsOne = (tables : Held) (bytes : List ℕ) (one other : Result Held ℕ) → Recovers tables bytes one → Recovers tables bytes other → one ≡ other

-- the log of entries that stand recovers to the tables after them
abbrev pub LogsRecover : Type 0
LogsRecover = (tables : Held) (entries : List Entry) (gate : ℕ) (bytes : List ℕ) → AllStand tables None entries → IsLogOf entries gate bytes
    → Recovers tables bytes (Ok (applied tables entries))

-- so what a crash inside an append leaves recovers to the tables before its entries or after all of them, where these stand
abbrev pub CrashesRecover : Type 0
CrashesRecover = (tables : Held) (entries more : List Entry) (gate : ℕ) (bytes : List ℕ) → AllStand tables None (entries ++ more)
    → IsBeforeOrAfter entries more gate bytes
    → Recovers tables bytes (Ok (applied tables entries)) ⊎ Recovers tables bytes (Ok (applied (applied tables entries) more))
