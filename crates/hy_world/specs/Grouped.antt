-- Group commit: sessions that share parts and a redo log. What each needs next, what holds of all of them between two visits, and what
-- a visit does.
use Rattle.std.specs.Prelude.{◌≡◌, ◌⊎◌, ℕ, suc, ◌*◌, ◌<◌, ◌≤◌, List, [], ◌++◌, Bool, true, false, Option, None, Some, is_some, nat_lt, ◌&&◌, ◌==◌}
use Rattle.std.specs.Prelude.{length, map, take, drop, slice_get, if◌then◌else◌}
use Rattle.std.specs.Option.{option_map}
use Rattle.hy_outside.specs.Faults.{Rose}
use Rattle.hy_value.specs.declared.Kind.{Kind}
use Rattle.hy_journal.specs.declared.CoreData.{CoreData}
use Rattle.hy_journal.specs.declared.Entry.{Entry}
use Rattle.hy_event.specs.declared.SessionData.{SessionData}
use Rattle.hy_event.specs.Needs.{need_of}
use Rattle.hy_machine.specs.declared.Setting.{Setting}
use Rattle.hy_redo.specs.Logs.{IsBatchOf}
use Rattle.hy_redo.specs.Crashes.{AreLogsOf, AreClosedAt, Appends}
use Rattle.hy_refinement.specs.Shows.{blank_core}
use Rattle.hy_gathered.specs.declared.tally.GroupTally.{GroupTally}
use Rattle.hy_session.specs.Ahead.{IsShareAhead}
use Rattle.hy_session.specs.Standing.{needed_number, number_within}
use Rattle.hy_stepping.specs.Outcomes.{is_done}
use Rattle.hy_threads.specs.declared.gate.Point.{Point}
use Rattle.hy_threads.specs.declared.worked.Visited.{Visited}
use Rattle.hy_threads.specs.declared.worked.Visited.TheVariants.{Moved, Answered, Blocked}
use Rattle.hy_world.specs.declared.grouped.Durability.{Durability}
use Rattle.hy_world.specs.declared.grouped.KeptLog.{KeptLog}
use Rattle.hy_world.specs.declared.grouped.LoggedPart.{LoggedPart}
use Rattle.hy_world.specs.declared.grouped.LoggedPart.TheVariants as part
use Rattle.hy_world.specs.declared.grouped.LoggedSession.{LoggedSession}
use Rattle.hy_world.specs.declared.grouped.Report.{Report}
use Rattle.hy_world.specs.declared.grouped.Report.TheVariants.{Durable, Short, Failed}
use Rattle.hy_world.specs.declared.grouped.Stage.{Stage}
use Rattle.hy_world.specs.declared.grouped.Stage.TheVariants.{Running, Appending, Reporting, Stopped}
use Rattle.hy_world.specs.Logged.{Extend, IsLogOfFirst}
use Rattle.hy_world.specs.Points.{visit_at}
use Rattle.hy_world.specs.Shared.{SharedData, ChunkOf, CoreOf, AreShared, HasToWait, IsVisit, MayVisit}

-- ---- what a session needs next

-- it has no transaction open, or is at its end
abbrev pub is_over : SessionData → Bool
is_over session = if is_some session.now then is_done (need_of session) else true

-- its transaction has ended, and it is told so once what it owes is durable
abbrev pub awaits : LoggedSession → Bool
awaits s = nat_lt 0 s.owed && is_over s.session

-- the parts are numbered as without a log, the core behind the chunks; the log is behind the core
abbrev pub logged_width : LoggedSession → ℕ
logged_width s = suc (suc s.core_part)

abbrev pub number_at : LoggedSession → Stage → Option ℕ
number_at s Running = if awaits s then Some s.core_part else number_within (suc s.core_part) (needed_number s.session)
number_at s (Appending upto batch) = Some (suc s.core_part)
number_at s (Reporting report) = Some s.core_part
number_at s Stopped = None

-- the number of the part that it needs for its next visit, if it goes on
abbrev pub logged_number : LoggedSession → Option ℕ
logged_number s = number_at s s.stage

abbrev pub logged_point : LoggedSession → Option Point
logged_point s = option_map (visit_at s.session) (logged_number s)

-- ---- parts

-- the entries of the journal, where the part is the core
abbrev pub entries_in : SharedData → List Entry
entries_in (ChunkOf kinds chunk) = []
entries_in (CoreOf core) = core.entries

abbrev pub HoldsCore : SharedData → Type 0
HoldsCore (ChunkOf kinds chunk) = ⊥
HoldsCore (CoreOf core) = Unit {0}

-- a part as it is shared without a log
abbrev pub shared_in : {D : Type 0} → LoggedPart D → SharedData
shared_in (part.Chunk shared) = shared
shared_in (part.Core shared durability) = shared
shared_in (part.Log log) = CoreOf blank_core

abbrev pub session_in : LoggedSession → SessionData
session_in s = s.session

-- a session before it has done anything
abbrev pub fresh_session : SessionData → ℕ → LoggedSession
fresh_session session core_part = record { session = session; owed = 0; stage = Running; core_part = core_part }

-- a share of its work, made ahead of its next visit
abbrev pub IsShareLogged : LoggedSession → ℕ → Option GroupTally → Type 0
IsShareLogged s = IsShareAhead s.session

-- ---- what a visit asks

abbrev pub MayVisitCore : LoggedSession → SharedData → Durability → Stage → Type 0
MayVisitCore s shared durability Running =
    HoldsCore shared × (durability.durable ≤ length (entries_in shared)) × (s.owed ≤ length (entries_in shared))
    × (awaits s ≡ false → MayVisit (need_of s.session) s.session shared)
MayVisitCore s shared durability (Appending upto batch) = ⊥
MayVisitCore s shared durability (Reporting report) = Unit {0}
MayVisitCore s shared durability Stopped = ⊥

abbrev pub MayAppend : {D : Type 0} → (D → List ℕ → Type 0) → KeptLog D → Stage → Type 0
MayAppend image log Running = ⊥
MayAppend image log (Appending upto batch) = AreClosedAt (image log.disk) log.log × ((more : List Entry) × IsBatchOf more batch)
MayAppend image log (Reporting report) = ⊥
MayAppend image log Stopped = ⊥

-- the part is of the kind that the session needs, and the visit may be made
abbrev pub MayVisitLogged : {D : Type 0} → (D → List ℕ → Type 0) → LoggedSession → LoggedPart D → Type 0
MayVisitLogged image s (part.Chunk shared) = (s.stage ≡ Running) × (awaits s ≡ false) × MayVisit (need_of s.session) s.session shared
MayVisitLogged image s (part.Core shared durability) = MayVisitCore s shared durability s.stage
MayVisitLogged image s (part.Log log) = MayAppend image log s.stage

-- so where the session needs the part of this number
abbrev pub IsLoggedNear : {D : Type 0} → (D → List ℕ → Type 0) → ℕ → LoggedSession → LoggedPart D → Type 0
IsLoggedNear image number s p = logged_number s ≡ Some number → MayVisitLogged image s p

-- ---- what a visit does

-- what a session owes behind a visit of the core: all entries, where its transaction began by the visit or has its entry by it
abbrev pub owed_after : LoggedSession → SharedData → SharedData → ℕ
owed_after s old new =
    if is_some s.session.now && length (entries_in new) == length (entries_in old) then s.owed else length (entries_in new)

-- it visits what its script needs, and owes so many entries then
pub record GoesOn (number : ℕ) (s : LoggedSession) (old : SharedData) (after : LoggedSession) (new : SharedData) (owed : ℕ) : Type 0 where
  pub running : s.stage ≡ Running
  pub free : awaits s ≡ false
  pub visit : IsVisit number s.session old after.session new
  pub owes : after.owed ≡ owed
  pub stays : after.stage ≡ Running
  pub placed : after.core_part ≡ s.core_part

-- it does so at the core, of whose log no fault is known
pub record GoesOnAtCore (number : ℕ) (s : LoggedSession) (old : SharedData) (durability : Durability) (after : LoggedSession) (new : SharedData)
    (known : Durability) : Type 0 where
  pub sound : durability.is_broken ≡ false
  pub same : known ≡ durability
  pub goes_on : GoesOn number s old after new (owed_after s old new)
  pub grows : Extend (entries_in old) (entries_in new)

-- the log is broken, and it stops
pub record Stops (s : LoggedSession) (old : SharedData) (durability : Durability) (after : LoggedSession) (new : SharedData) (known : Durability) : Type 0 where
  pub running : s.stage ≡ Running
  pub broken : durability.is_broken ≡ true
  pub after_is : after ≡ record s { stage = Stopped }
  pub stays : new ≡ old
  pub same : known ≡ durability

-- what it owes is durable: it is told how its transaction ended
pub record IsTold (s : LoggedSession) (old : SharedData) (durability : Durability) (after : LoggedSession) (new : SharedData) (known : Durability) : Type 0 where
  pub running : s.stage ≡ Running
  pub sound : durability.is_broken ≡ false
  pub waited : awaits s ≡ true
  pub durable : s.owed ≤ durability.durable
  pub after_is : after ≡ record s { owed = 0 }
  pub stays : new ≡ old
  pub same : known ≡ durability

-- it takes all entries that are not durable, where nobody else has taken some
pub record TakesEntries (s : LoggedSession) (old : SharedData) (durability : Durability) (after : LoggedSession) (new : SharedData) (known : Durability) : Type 0 where
  pub running : s.stage ≡ Running
  pub sound : durability.is_broken ≡ false
  pub idle : durability.is_appending ≡ false
  pub batch : List ℕ
  pub after_is : after ≡ record s { stage = Appending (length (entries_in old)) batch }
  pub batch_is : IsBatchOf (drop durability.durable (entries_in old)) batch
  pub stays : new ≡ old
  pub known_is : known ≡ record durability { is_appending = true }

-- what the core knows of the log after a report
abbrev pub reported : Durability → Report → Durability
reported durability (Durable count) = record durability { durable = count; is_appending = false }
reported durability Short = record durability { is_appending = false }
reported durability Failed = record durability { is_appending = false; is_broken = true }

-- it reports what came of the entries that it took
pub record Reports (s : LoggedSession) (old : SharedData) (durability : Durability) (after : LoggedSession) (new : SharedData) (known : Durability) : Type 0 where
  pub report : Report
  pub reporting : s.stage ≡ Reporting report
  pub after_is : after ≡ record s { stage = Running }
  pub stays : new ≡ old
  pub known_is : known ≡ reported durability report

abbrev pub CoreVisit : ℕ → LoggedSession → SharedData → Durability → LoggedSession → SharedData → Durability → Type 0
CoreVisit number s old durability after new known =
    GoesOnAtCore number s old durability after new known
    ⊎ (Stops s old durability after new known ⊎ (IsTold s old durability after new known
    ⊎ (TakesEntries s old durability after new known ⊎ Reports s old durability after new known)))

-- what an append leaves, by what it came to
abbrev pub AppendLeaves : {D : Type 0} → (D → List ℕ → Type 0) → (D → ℕ) → ℕ → List ℕ → KeptLog D → KeptLog D → Report → Type 0
AppendLeaves image faults upto batch old new (Durable count) =
    (count ≡ upto) × (new.count ≡ upto) × (new.is_broken ≡ old.is_broken) × (faults new.disk ≡ faults old.disk)
    × ((entries more : List Entry) → IsBatchOf more batch → AreLogsOf (image old.disk) entries old.log → AreLogsOf (image new.disk) (entries ++ more) new.log)
AppendLeaves image faults upto batch old new Short =
    (new.count ≡ old.count) × (new.is_broken ≡ old.is_broken) × (faults new.disk ≡ faults old.disk)
    × ((entries : List Entry) → AreLogsOf (image old.disk) entries old.log → AreLogsOf (image new.disk) entries new.log)
AppendLeaves image faults upto batch old new Failed =
    (new.count ≡ old.count) × (new.is_broken ≡ true) × Rose (faults old.disk) (faults new.disk)

-- a batch of entries, with which the log has so many, is appended to it, and that comes to this
pub record IsAppended {D : Type 0} (clock : D → ℕ) (image : D → List ℕ → Type 0) (image_since : D → ℕ → List ℕ → Type 0) (faults : D → ℕ)
    (upto : ℕ) (batch : List ℕ) (old new : KeptLog D) (report : Report) : Type 0 where
  pub later : clock old.disk ≤ clock new.disk
  pub moments : (entries more : List Entry) → IsBatchOf more batch → AreLogsOf (image old.disk) entries old.log
      → Appends clock image_since entries more old.log old.disk new.disk
  pub leaves : AppendLeaves image faults upto batch old new report

-- a session appends the entries that it took
pub record AppendsEntries {D : Type 0} (clock : D → ℕ) (image : D → List ℕ → Type 0) (image_since : D → ℕ → List ℕ → Type 0) (faults : D → ℕ)
    (s : LoggedSession) (old : KeptLog D) (after : LoggedSession) (new : KeptLog D) : Type 0 where
  pub upto : ℕ
  pub batch : List ℕ
  pub report : Report
  pub appending : s.stage ≡ Appending upto batch
  pub after_is : after ≡ record s { stage = Reporting report }
  pub appended : IsAppended clock image image_since faults upto batch old new report

-- a session visits the part of this number, which is the one that it needs
abbrev pub IsLoggedVisit : {D : Type 0} → (D → ℕ) → (D → List ℕ → Type 0) → (D → ℕ → List ℕ → Type 0) → (D → ℕ)
    → ℕ → LoggedSession → LoggedPart D → LoggedSession → LoggedPart D → Type 0
IsLoggedVisit clock image image_since faults number s (part.Chunk old) after (part.Chunk new) = GoesOn number s old after new s.owed
IsLoggedVisit clock image image_since faults number s (part.Core old durability) after (part.Core new known) =
    CoreVisit number s old durability after new known
IsLoggedVisit clock image image_since faults number s (part.Log old) after (part.Log new) =
    AppendsEntries clock image image_since faults s old after new
IsLoggedVisit clock image image_since faults number s _ after _ = ⊥

abbrev pub WaitsAtCore : LoggedSession → SharedData → Durability → Bool → Type 0
WaitsAtCore s shared durability true = (durability.durable < s.owed) × (durability.is_appending ≡ true)
WaitsAtCore s shared durability false = HasToWait s.session shared

-- at the core, of whose log no fault is known
abbrev pub CoreHasToWait : LoggedSession → SharedData → Durability → Type 0
CoreHasToWait s shared durability = (s.stage ≡ Running) × (durability.is_broken ≡ false) × WaitsAtCore s shared durability (awaits s)

-- it has to wait: for what it owes, which another session appends, or as it waits without a log
abbrev pub HasToWaitLogged : {D : Type 0} → LoggedSession → LoggedPart D → Type 0
HasToWaitLogged s (part.Chunk shared) = HasToWait s.session shared
HasToWaitLogged s (part.Core shared durability) = CoreHasToWait s shared durability
HasToWaitLogged s (part.Log log) = ⊥

-- a visit of the core came to this: the session went on, or has to wait, and nothing changed
abbrev pub CoreComesTo : ℕ → Visited → LoggedSession → SharedData → Durability → LoggedSession → SharedData → Durability → Type 0
CoreComesTo number Moved s old durability after new known = CoreVisit number s old durability after new known × ¬ CoreHasToWait s old durability
CoreComesTo number Answered s old durability after new known = CoreVisit number s old durability after new known × ¬ CoreHasToWait s old durability
CoreComesTo number Blocked s old durability after new known =
    CoreHasToWait s old durability × (after ≡ s) × (new ≡ old) × (known ≡ durability)

-- ---- what holds of all of them

-- whether a session has taken entries, and has not reported what came of them
abbrev pub has_taken : Stage → Bool
has_taken Running = false
has_taken (Appending upto batch) = true
has_taken (Reporting report) = true
has_taken Stopped = false

-- entries were taken, which come next in the log
pub record IsToAppend {D : Type 0} (entries : List Entry) (durability : Durability) (log : KeptLog D) (upto : ℕ) (batch : List ℕ) : Type 0 where
  pub sound : log.is_broken ≡ false
  pub none_yet : log.count ≡ durability.durable
  pub more : List Entry
  pub batch_is : IsBatchOf more batch
  pub within : upto ≤ length entries
  pub follow : take upto entries ≡ take log.count entries ++ more

abbrev pub IsToReport : {D : Type 0} → Durability → KeptLog D → Report → Type 0
IsToReport durability log (Durable count) = (log.is_broken ≡ false) × (log.count ≡ count)
IsToReport durability log Short = (log.is_broken ≡ false) × (log.count ≡ durability.durable)
IsToReport durability log Failed = log.is_broken ≡ true

-- what a session's stage says of the log
abbrev pub StageHolds : {D : Type 0} → List Entry → Durability → KeptLog D → Stage → Type 0
StageHolds entries durability log Running = Unit {0}
StageHolds entries durability log (Appending upto batch) = IsToAppend entries durability log upto batch
StageHolds entries durability log (Reporting report) = IsToReport durability log report
StageHolds entries durability log Stopped = durability.is_broken ≡ true

-- some session owes so many entries
pub record IsOwed (sessions : List LoggedSession) (count : ℕ) : Type 0 where
  pub number : ℕ
  pub session : LoggedSession
  pub found : slice_get sessions number ≡ Some session
  pub owes : count ≤ session.owed

-- What was done to a disk since a clock showed this: a crash at any moment of it leaves what one could leave before, or the log of some
-- first ones of these entries.
pub record IsLoggedFrom {D : Type 0} (clock : D → ℕ) (image_since : D → ℕ → List ℕ → Type 0) (time : ℕ) (before : ℕ → List ℕ → Type 0)
    (entries : List Entry) (disk : D) : Type 0 where
  pub later : time ≤ clock disk
  pub moments : (earlier : ℕ) (bytes : List ℕ) → earlier ≤ time → image_since disk earlier bytes → before earlier bytes ⊎ IsLogOfFirst entries bytes

-- whether the disk failed since it had so many faults
abbrev pub FailedSince : ℕ → ℕ → Bool → Type 0
FailedSince before now true = Rose before now
FailedSince before now false = now ≡ before

-- the log has first entries of the commit order, which are told as durable only if they are in it
pub record IsKeptLog {D : Type 0} (clock : D → ℕ) (image : D → List ℕ → Type 0) (image_since : D → ℕ → List ℕ → Type 0) (faults : D → ℕ)
    (time : ℕ) (before : ℕ → List ℕ → Type 0) (failed : ℕ) (entries : List Entry) (durability : Durability) (log : KeptLog D) : Type 0 where
  pub in_log : durability.durable ≤ log.count
  pub within : log.count ≤ length entries
  pub logged : log.is_broken ≡ false → AreLogsOf (image log.disk) (take log.count entries) log.log
  pub from : IsLoggedFrom clock image_since time before entries log.disk
  pub faulty : FailedSince failed (faults log.disk) log.is_broken
  -- a fault is known only where there was one; where nobody appends, the core knows all
  pub known : durability.is_broken ≡ true → log.is_broken ≡ true
  pub quiet : durability.is_appending ≡ false → durability.is_broken ≡ false → (log.count ≡ durability.durable) × (log.is_broken ≡ false)

-- one session at most has taken entries, and no entry is forgotten: it is durable, or a session owes it
pub record AreServed {D : Type 0} (entries : List Entry) (durability : Durability) (log : KeptLog D) (sessions : List LoggedSession) : Type 0 where
  pub taker : Option ℕ
  pub one : (number : ℕ) (s : LoggedSession) → slice_get sessions number ≡ Some s → has_taken s.stage ≡ true → taker ≡ Some number
  pub busy : durability.is_appending ≡ is_some taker
  pub stages : (number : ℕ) (s : LoggedSession) → slice_get sessions number ≡ Some s → StageHolds entries durability log s.stage
  pub owe : (number : ℕ) (s : LoggedSession) → slice_get sessions number ≡ Some s → s.owed ≤ length entries
  pub covered : (length entries ≤ durability.durable) ⊎ IsOwed sessions (length entries)

-- the chunks, the core and the log, in which this core knows this of this log
pub record HasParts {D : Type 0} (setting : Setting) (parts : List (LoggedPart D)) (core : CoreData) (durability : Durability) (log : KeptLog D) : Type 0 where
  pub count : length parts ≡ suc (suc (length setting.shapes * setting.chunks))
  pub chunks : (number : ℕ) (p : LoggedPart D) → number < length setting.shapes * setting.chunks → slice_get parts number ≡ Some p
      → (shared : SharedData) × (p ≡ part.Chunk shared)
  pub at_core : slice_get parts (length setting.shapes * setting.chunks) ≡ Some (part.Core (CoreOf core) durability)
  pub at_log : slice_get parts (suc (length setting.shapes * setting.chunks)) ≡ Some (part.Log log)

-- What holds of all parts and all sessions between two visits: without the log some state is shown that the machine comes to, and the
-- log is kept of its commit order.
pub record AreLogged {D : Type 0} (clock : D → ℕ) (image : D → List ℕ → Type 0) (image_since : D → ℕ → List ℕ → Type 0) (faults : D → ℕ)
    (setting : Setting) (kinds : List (List Kind)) (time : ℕ) (before : ℕ → List ℕ → Type 0) (failed : ℕ)
    (parts : List (LoggedPart D)) (sessions : List LoggedSession) : Type 0 where
  pub core : CoreData
  pub durability : Durability
  pub log : KeptLog D
  pub has : HasParts setting parts core durability log
  pub shared : AreShared setting kinds (map shared_in (take (suc (length setting.shapes * setting.chunks)) parts)) (map session_in sessions)
  pub placed : (number : ℕ) (s : LoggedSession) → slice_get sessions number ≡ Some s → s.core_part ≡ length setting.shapes * setting.chunks
  pub kept : IsKeptLog clock image image_since faults time before failed core.entries durability log
  pub served : AreServed core.entries durability log sessions
