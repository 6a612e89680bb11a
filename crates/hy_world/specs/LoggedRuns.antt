-- What a run on threads that keeps a log comes to, and what it leaves on the disk.
use Rattle.std.specs.Prelude.{◌≡◌, ℕ, ◌*◌, List, [], ◌∷◌, ◌++◌, false, Result, IfOk, map, length}
use Rattle.hy_bound.specs.declared.schedule.Item.{Item}
use Rattle.hy_value.specs.declared.Kind.{Kind}
use Rattle.hy_chunk.specs.Views.{Whole}
use Rattle.hy_event.specs.declared.SessionData.{SessionData}
use Rattle.hy_journal.specs.declared.CoreData.{CoreData}
use Rattle.hy_machine.specs.declared.Setting.{Setting}
use Rattle.hy_machine.specs.Outcomes.{outcome_of}
use Rattle.hy_machine.specs.Runs.{run_of}
use Rattle.hy_redo.specs.Crashes.{AreLogsOf}
use Rattle.hy_redo.specs.declared.errors.AppendError.{AppendError}
use Rattle.hy_refinement.specs.Shows.{blank_core}
use Rattle.hy_render.specs.declared.Outcome.{Outcome}
use Rattle.hy_stepping.specs.Texts.{CanBeLogged}
use Rattle.hy_world.specs.declared.grouped.Durability.{Durability}
use Rattle.hy_world.specs.declared.grouped.KeptLog.{KeptLog}
use Rattle.hy_world.specs.declared.grouped.LoggedPart.{LoggedPart}
use Rattle.hy_world.specs.declared.grouped.LoggedPart.TheVariants as part
use Rattle.hy_world.specs.declared.grouped.LoggedSession.{LoggedSession}
use Rattle.hy_world.specs.declared.logged_threads.Ready.{Ready}
use Rattle.hy_world.specs.Grouped.{fresh_session}
use Rattle.hy_world.specs.Logged.{HasLogged, IsDurable, IsKeptSince, LogsRun}
use Rattle.hy_world.specs.Shared.{SharedData, CoreOf, AreShared, parts_shared}
use Rattle.hy_world.specs.Worlds.{WorldData, ShowsState}

-- nothing is durable yet
abbrev pub nothing_durable : Durability
nothing_durable = record { durable = 0; is_appending = false; is_broken = false }

-- parts that sessions share without a log, and this log behind them, in which nothing is: the last of those is the core
pub record AreWithLog {D : Type 0} (shared : List SharedData) (log : KeptLog D) (parts : List (LoggedPart D)) : Type 0 where
  pub chunks : List SharedData
  pub core : SharedData
  pub shared_are : shared ≡ chunks ++ core ∷ []
  pub parts_are : parts ≡ map part.Chunk chunks ++ part.Core core nothing_durable ∷ part.Log log ∷ []

-- a part that is there without a log too
abbrev pub IsNoLog : {D : Type 0} → LoggedPart D → Type 0
IsNoLog (part.Chunk shared) = Unit {0}
IsNoLog (part.Core shared durability) = Unit {0}
IsNoLog (part.Log log) = ⊥

-- sessions before they have done anything
abbrev pub fresh_sessions : ℕ → List SessionData → List LoggedSession
fresh_sessions core_part sessions = map (λ session. fresh_session session core_part) sessions

-- parts without a log and sessions, before anything has happened
pub record IsReady (setting : Setting) (kinds : List (List Kind)) (made : Ready) : Type 0 where
  pub chunks : List Whole
  pub parts_are : made.parts.items ≡ parts_shared chunks blank_core
  pub plain : List SessionData
  pub sessions_are : made.sessions.items ≡ fresh_sessions (length setting.shapes * setting.chunks) plain
  pub shared : AreShared setting kinds made.parts.items plain
  pub shapes_are : made.shapes ≡ setting.shapes
  pub per_table_is : made.per_table ≡ setting.chunks

-- a log in which nothing is, and of which no fault is known
pub record IsEmptyLog {D : Type 0} (image : D → List ℕ → Type 0) (log : KeptLog D) : Type 0 where
  pub count : log.count ≡ 0
  pub sound : log.is_broken ≡ false
  pub logs : AreLogsOf (image log.disk) [] log.log

-- the last of these parts is this core, if it is one
abbrev pub IsLastCore : List SharedData → CoreData → Type 0
IsLastCore shared core = (chunks : List SharedData) (last : CoreData) → shared ≡ chunks ++ CoreOf last ∷ [] → core ≡ last

-- the clock of a disk before a run, what crashes may have left until then, and its faults
pub record IsBefore {D : Type 0} (clock : D → ℕ) (image_since : D → ℕ → List ℕ → Type 0) (faults : D → ℕ) (time : ℕ) (before : ℕ → List ℕ → Type 0)
    (failed : ℕ) (disk : D) : Type 0 where
  pub time_is : time ≡ clock disk
  pub left : (earlier : ℕ) (bytes : List ℕ) → image_since disk earlier bytes → before earlier bytes
  pub only : (earlier : ℕ) (bytes : List ℕ) → before earlier bytes → image_since disk earlier bytes
  pub failed_is : failed ≡ faults disk

-- What a run by some schedule leaves: its world, if it came to its end, and the log of its commit order.
pub record IsWorldLogged {D : Type 0} (clock : D → ℕ) (image : D → List ℕ → Type 0) (image_since : D → ℕ → List ℕ → Type 0) (setting : Setting)
    (kinds : List (List Kind)) (result : Result WorldData AppendError) (before after : D) : Type 0 where
  pub schedule : List Item
  pub shows : IfOk result (λ world. ShowsState setting (run_of setting schedule) world)
  pub kept : IfOk result (λ world. IsKeptSince image image_since world.core.entries (clock before) after)
  pub moments : CanBeLogged kinds setting → LogsRun clock image_since setting kinds (run_of setting schedule) before after

-- What a run by some schedule comes to, and what it leaves of a log that was empty: where it breaks off too, a crash at any moment leaves
-- what one could leave before, or the log of some first entries of the commit order of that run.
pub record RanLogged {D : Type 0} (clock : D → ℕ) (image : D → List ℕ → Type 0) (image_since : D → ℕ → List ℕ → Type 0) (setting : Setting)
    (kinds : List (List Kind)) (result : Result Outcome AppendError) (before after : D) : Type 0 where
  pub schedule : List Item
  pub outcome : IfOk result (λ outcome. outcome ≡ outcome_of setting (run_of setting schedule))
  pub logged : IfOk result (λ outcome. HasLogged image image_since outcome.order (clock before) after)
  pub durable : CanBeLogged kinds setting → IfOk result (λ outcome. IsDurable image image_since setting kinds (run_of setting schedule) (clock before) after)
  pub moments : CanBeLogged kinds setting → LogsRun clock image_since setting kinds (run_of setting schedule) before after
