-- What a visit of a session that keeps a log comes to.
use Rattle.std.proofs.Common.{◌≡◌, inl, inr, ℕ, ◌<◌, ◌≤◌, List, [], ◌∷◌, Bool, true, false, Option, Some, length, drop, refl, ap, ◌∙◌, sym, subst, arith}
use Rattle.std.specs.Prelude.{suc, None, nat_eq, nat_lt, ◌&&◌, is_some, if◌then◌else◌}
use Rattle.hy_journal.specs.declared.Entry.{Entry}
use Rattle.hy_event.specs.declared.SessionData.{SessionData}
use Rattle.hy_event.specs.declared.Need.{Need}
use Rattle.hy_event.specs.declared.Need.TheVariants.{Core, Chunk, Done}
use Rattle.hy_event.specs.CoreTurns.{core_turn}
use Rattle.hy_event.specs.Events.{NeededVisit, part_number}
use Rattle.hy_event.specs.Needs.{need_of}
use Rattle.hy_protocol.specs.declared.Progress.{Progress}
use Rattle.hy_protocol.specs.declared.Progress.TheVariants as progress
use Rattle.hy_redo.specs.Logs.{IsBatchOf}
use Rattle.hy_session.specs.Standing.{needed_number, number_within, width_of}
use Rattle.hy_threads.specs.Visits.{Visits}
use Rattle.hy_threads.specs.declared.worked.Visited.{Visited}
use Rattle.hy_threads.specs.declared.worked.Visited.TheVariants.{Moved, Answered, Blocked}
use Rattle.hy_world.specs.declared.grouped.Durability.{Durability}
use Rattle.hy_world.specs.declared.grouped.LoggedPart.{LoggedPart}
use Rattle.hy_world.specs.declared.grouped.LoggedPart.TheVariants as part
use Rattle.hy_world.specs.declared.grouped.LoggedSession.{LoggedSession}
use Rattle.hy_world.specs.declared.grouped.Report.{Report}
use Rattle.hy_world.specs.declared.grouped.Stage.{Stage}
use Rattle.hy_world.specs.declared.grouped.Stage.TheVariants.{Running, Appending, Reporting, Stopped}
use Rattle.hy_world.specs.Grouped.{CoreComesTo, CoreHasToWait, CoreVisit, GoesOn, HasToWaitLogged, HoldsCore, IsLoggedVisit, MayVisitCore}
use Rattle.hy_world.specs.Grouped.{WaitsAtCore, awaits, entries_in, logged_number, number_at, owed_after, reported}
use Rattle.hy_world.specs.Logged.{Extend, GrowByOne}
use Rattle.hy_world.specs.Points.{visited_of}
use Rattle.hy_world.specs.Shared.{SharedData, ChunkOf, CoreOf, HasToWait, IsVisit, KeepsTypes, part_of}
use Rattle.hy_world.proofs.Growing.{taken_grows}
use Rattle.hy_world.proofs.Logs.{none_behind}
use Rattle.hy_world.proofs.VisitsLeave.{visit_told}

-- ---- the part that is needed

within_number : (count number found : ℕ) (less : Bool) → (if less then Some number else None) ≡ Some found → Some number ≡ Some found
within_number count number found true e = e
within_number count number found false e = absurd (cc e)

own_number : (count : ℕ) (given : Option ℕ) (found : ℕ) → number_within count given ≡ Some found → given ≡ Some found
own_number count None found e = absurd (cc e)
own_number count (Some number) found e = within_number count number found (nat_lt number count) e

running_number : (s : LoggedSession) (waits : Bool) (k : ℕ) → awaits s ≡ waits → awaits s ≡ false
    → (if waits then Some s.core_part else number_within (suc s.core_part) (needed_number s.session)) ≡ Some k
    → part_number s.session (need_of s.session) ≡ Some k
running_number s true k is free e = absurd (cc (is, free))
running_number s false k is free e =
    own_number (width_of s.session) (part_number s.session (need_of s.session)) k (own_number (suc s.core_part) (needed_number s.session) k e)

-- of a session that goes on as without a log
pub goes_number : (s : LoggedSession) (k : ℕ) → s.stage ≡ Running → awaits s ≡ false → logged_number s ≡ Some k
    → part_number s.session (need_of s.session) ≡ Some k
goes_number s k running free e =
    running_number s (awaits s) k refl free (subst (λ (stage : Stage). number_at s stage ≡ Some k) running e)

-- ---- a chunk

abbrev pub chunk_part : {D : Type 0} → SharedData → LoggedPart D
chunk_part shared = part.Chunk shared

abbrev pub core_part : {D : Type 0} → SharedData → Durability → LoggedPart D
core_part shared d = part.Core shared d

abbrev pub with_session : LoggedSession → SessionData → LoggedSession
with_session s after = record s { session = after }

goes : (number : ℕ) (s : LoggedSession) (old new : SharedData) (after : SessionData) → s.stage ≡ Running → awaits s ≡ false
    → IsVisit number s.session old after new → GoesOn number s old (with_session s after) new s.owed
goes number s old new after running free visit =
    record { running = running; free = free; visit = visit; owes = refl; stays = running; placed = refl }

stays_session : (s : LoggedSession) (after : SessionData) → after ≡ s.session → with_session s after ≡ s
stays_session s after same = ap (with_session s) same

pub chunk_told : {D : Type 0} (clock : D → ℕ) (image : D → List ℕ → Type 0) (image_since : D → ℕ → List ℕ → Type 0) (faults : D → ℕ) (number : ℕ)
    (s : LoggedSession) (old new : SharedData) (step : Progress) (after : SessionData) → s.stage ≡ Running → awaits s ≡ false
    → logged_number s ≡ Some number → NeededVisit (need_of s.session) s.session (part_of old) step after (part_of new) → KeepsTypes old new
    → Visits (IsLoggedVisit clock image image_since faults number) HasToWaitLogged (visited_of step) s (part.Chunk old)
    (with_session s after) (part.Chunk new)
chunk_told clock image image_since faults number s old new progress.Moved after running free needs visit types =
    let told = visit_told number s.session old progress.Moved after new (goes_number s number running free needs) visit types in
    (goes number s old new after running free told.0, told.1)
chunk_told clock image image_since faults number s old new progress.Ended after running free needs visit types =
    let told = visit_told number s.session old progress.Ended after new (goes_number s number running free needs) visit types in
    (goes number s old new after running free told.0, told.1)
chunk_told clock image image_since faults number s old new progress.Answered after running free needs visit types =
    let told = visit_told number s.session old progress.Answered after new (goes_number s number running free needs) visit types in
    (goes number s old new after running free told.0, told.1)
chunk_told {D = D} clock image image_since faults number s old new (progress.Blocked by) after running free needs visit types =
    let told = visit_told number s.session old (progress.Blocked by) after new (goes_number s number running free needs) visit types in
    (told.0, stays_session s after told.1, ap (λ (shared : SharedData). chunk_part {D = D} shared) told.2)

-- ---- the core

-- a part keeps to be the core
pub holds_still : (old new : SharedData) → KeepsTypes old new → HoldsCore old → HoldsCore new
holds_still (ChunkOf kinds chunk) new keeps holds = absurd holds
holds_still (CoreOf core) (ChunkOf kinds chunk) keeps holds = absurd keeps
holds_still (CoreOf core) (CoreOf new) keeps holds = tt

extend_by : (old new : List Entry) → GrowByOne old new → Extend old new
extend_by old new (inl same) = subst (λ (entries : List Entry). Extend old entries) (sym same) (none_behind old)
extend_by old new (inr more) = record { others = more.0 ∷ []; behind = more.1 }

-- the commit order becomes no less by a visit of the core
pub needed_grows : (need : Need) (session after : SessionData) (step : Progress) (old new : SharedData) → HoldsCore old
    → NeededVisit need session (part_of old) step after (part_of new) → Extend (entries_in old) (entries_in new)
needed_grows need session after step (ChunkOf kinds chunk) new holds visit = absurd holds
needed_grows Core session after step (CoreOf core) (ChunkOf kinds chunk) holds visit = absurd visit
needed_grows Core session after step (CoreOf core) (CoreOf new) holds visit =
    extend_by core.entries new.entries (taken_grows session after core new step (core_turn session core) visit)
needed_grows (Chunk table number) session after step (CoreOf core) (ChunkOf kinds chunk) holds visit = absurd visit
needed_grows (Chunk table number) session after step (CoreOf core) (CoreOf new) holds visit = absurd visit
needed_grows Done session after step (CoreOf core) new holds visit = absurd visit

-- it doesn't have to wait there
not_waiting : (s : LoggedSession) (old : SharedData) (d : Durability) → awaits s ≡ false → ¬ HasToWait s.session old → ¬ CoreHasToWait s old d
not_waiting s old d free never waits = never (subst (WaitsAtCore s old d) free waits.2)

-- what a session is after it went on at the core
pub record IsAfter (s : LoggedSession) (old new : SharedData) (after : SessionData) (t : LoggedSession) : Type 0 where
  pub session : t.session ≡ after
  pub owes : t.owed ≡ owed_after s old new
  pub stage : t.stage ≡ s.stage
  pub placed : t.core_part ≡ s.core_part

went_on : (number : ℕ) (s t : LoggedSession) (old new : SharedData) (after : SessionData) (d : Durability) → s.stage ≡ Running → awaits s ≡ false
    → d.is_broken ≡ false → IsAfter s old new after t → Extend (entries_in old) (entries_in new) → IsVisit number s.session old after new
    → CoreVisit number s old d t new d
went_on number s t old new after d running free sound is grows visit = inl (record {
  sound = sound;
  same = refl;
  goes_on = record {
    running = running;
    free = free;
    visit = subst (λ (session : SessionData). IsVisit number s.session old session new) (sym is.session) visit;
    owes = is.owes;
    stays = is.stage ∙ running;
    placed = is.placed;
  };
  grows = grows;
})

-- a visit that came to no wait without a log, told so or as one that moved
abbrev IsGoing : Visited → Type 0
IsGoing visited = visited ≡ Blocked → ⊥

pub core_goes : (number : ℕ) (s t : LoggedSession) (old new : SharedData) (step : Progress) (after : SessionData) (visited : Visited)
    (d : Durability) → s.stage ≡ Running → awaits s ≡ false → logged_number s ≡ Some number → HoldsCore old
    → NeededVisit (need_of s.session) s.session (part_of old) step after (part_of new) → KeepsTypes old new
    → IsGoing (visited_of step) → IsGoing visited → IsAfter s old new after t → d.is_broken ≡ false → CoreComesTo number visited s old d t new d
core_goes number s t old new step after visited d running free needs holds visit types going told is sound =
    told_by step visited visit going told
  where
    grows_by : (came : Progress) → NeededVisit (need_of s.session) s.session (part_of old) came after (part_of new) → Extend (entries_in old) (entries_in new)
    grows_by came visit = needed_grows (need_of s.session) s.session after came old new holds visit

    gives : (visited : Visited) → IsGoing visited → CoreVisit number s old d t new d → ¬ CoreHasToWait s old d → CoreComesTo number visited s old d t new d
    gives Moved told visit free = (visit, free)
    gives Answered told visit free = (visit, free)
    gives Blocked told visit free = absurd (told refl)

    told_by : (came : Progress) (visited : Visited) → NeededVisit (need_of s.session) s.session (part_of old) came after (part_of new)
        → IsGoing (visited_of came) → IsGoing visited → CoreComesTo number visited s old d t new d
    told_by progress.Moved visited visit going told =
        let came = visit_told number s.session old progress.Moved after new (goes_number s number running free needs) visit types in
        gives visited told (went_on number s t old new after d running free sound is (grows_by progress.Moved visit) came.0) (not_waiting s old d free came.1)
    told_by progress.Ended visited visit going told =
        let came = visit_told number s.session old progress.Ended after new (goes_number s number running free needs) visit types in
        gives visited told (went_on number s t old new after d running free sound is (grows_by progress.Ended visit) came.0) (not_waiting s old d free came.1)
    told_by progress.Answered visited visit going told =
        let came = visit_told number s.session old progress.Answered after new (goes_number s number running free needs) visit types in
        gives visited told (went_on number s t old new after d running free sound is (grows_by progress.Answered visit) came.0) (not_waiting s old d free came.1)
    told_by (progress.Blocked other) visited visit going told = absurd (going refl)

-- a visit that came to a wait without a log
pub core_waits : (number : ℕ) (s : LoggedSession) (old new : SharedData) (step : Progress) (after : SessionData) (d : Durability) → s.stage ≡ Running
    → awaits s ≡ false → logged_number s ≡ Some number → NeededVisit (need_of s.session) s.session (part_of old) step after (part_of new)
    → KeepsTypes old new → visited_of step ≡ Blocked → d.is_broken ≡ false → CoreComesTo number Blocked s old d (record s { session = after }) new d
core_waits number s old new progress.Moved after d running free needs visit types is sound = absurd (cc is)
core_waits number s old new progress.Ended after d running free needs visit types is sound = absurd (cc is)
core_waits number s old new progress.Answered after d running free needs visit types is sound = absurd (cc is)
core_waits number s old new (progress.Blocked by) after d running free needs visit types is sound =
    let came = visit_told number s.session old (progress.Blocked by) after new (goes_number s number running free needs) visit types in
    ((running, sound, subst (WaitsAtCore s old d) (sym free) came.0), stays_session s after came.1, came.2, refl)

-- ---- the core, of a session that waits for what it owes

pub core_answers : (number : ℕ) (s : LoggedSession) (old : SharedData) (d : Durability) → s.stage ≡ Running → awaits s ≡ true → d.is_broken ≡ false
    → s.owed ≤ d.durable → CoreComesTo number Answered s old d (record s { owed = 0 }) old d
core_answers number s old d running waits sound durable = (
  inr (inr (inl (record {
    running = running;
    sound = sound;
    waited = waits;
    durable = durable;
    after_is = refl;
    stays = refl;
    same = refl;
  }))),
  λ blocked. let less = (subst (WaitsAtCore s old d) waits blocked.2).0 in absurd (omega (arith, less, durable)),
)

pub core_blocks : (number : ℕ) (s : LoggedSession) (old : SharedData) (d : Durability) → s.stage ≡ Running → awaits s ≡ true → d.is_broken ≡ false
    → d.durable < s.owed → d.is_appending ≡ true → CoreComesTo number Blocked s old d s old d
core_blocks number s old d running waits sound less busy = ((running, sound, subst (WaitsAtCore s old d) (sym waits) (less, busy)), refl, refl, refl)

pub core_takes : (number : ℕ) (s : LoggedSession) (old : SharedData) (d : Durability) (stage : Stage) → s.stage ≡ Running → awaits s ≡ true
    → d.is_broken ≡ false → d.is_appending ≡ false
    → (batch : List ℕ) × IsBatchOf (drop d.durable (entries_in old)) batch × (stage ≡ Appending (length (entries_in old)) batch)
    → CoreComesTo number Moved s old d (record s { stage = stage }) old (record d { is_appending = true })
core_takes number s old d stage running waits sound idle taken = (
  inr (inr (inr (inl (record {
    running = running;
    sound = sound;
    idle = idle;
    batch = taken.0;
    after_is = ap (λ (next : Stage). record s { stage = next }) taken.2;
    batch_is = taken.1;
    stays = refl;
    known_is = refl;
  })))),
  λ blocked. let busy = (subst (WaitsAtCore s old d) waits blocked.2).1 in absurd (cc (idle, busy)),
)

-- ---- the core, where the log is broken, and after an append

pub core_stops : (number : ℕ) (s : LoggedSession) (old : SharedData) (d : Durability) → s.stage ≡ Running → d.is_broken ≡ true
    → CoreComesTo number Moved s old d (record s { stage = Stopped }) old d
core_stops number s old d running broken = (
  inr (inl (record { running = running; broken = broken; after_is = refl; stays = refl; same = refl })),
  λ blocked. let sound = blocked.1 in absurd (cc (sound, broken)),
)

pub core_reports : (number : ℕ) (s t : LoggedSession) (old : SharedData) (d known : Durability) (report : Report) → s.stage ≡ Reporting report
    → t ≡ record s { stage = Running } → known ≡ reported d report → CoreComesTo number Moved s old d t old known
core_reports number s t old d known report is after known_is = (
  inr (inr (inr (inr (record { report = report; reporting = is; after_is = after; stays = refl; known_is = known_is })))),
  λ blocked. let running = blocked.0 in absurd (cc (is, running)),
)

-- a session that visits the core and has no report goes on there
pub core_running : (s : LoggedSession) (shared : SharedData) (d : Durability) (stage : Stage) → MayVisitCore s shared d stage
    → ((report : Report) → stage ≡ Reporting report → ⊥) → (stage ≡ Running) × MayVisitCore s shared d Running
core_running s shared d Running may none = (refl, may)
core_running s shared d (Appending upto batch) may none = absurd may
core_running s shared d (Reporting report) may none = absurd (none report refl)
core_running s shared d Stopped may none = absurd may

-- what it comes to, of the part that has the core
pub core_visits : {D : Type 0} (clock : D → ℕ) (image : D → List ℕ → Type 0) (image_since : D → ℕ → List ℕ → Type 0) (faults : D → ℕ) (number : ℕ)
    (visited : Visited) (s t : LoggedSession) (old new : SharedData) (d known : Durability) → CoreComesTo number visited s old d t new known
    → Visits (IsLoggedVisit clock image image_since faults number) HasToWaitLogged visited s (part.Core old d) t (part.Core new known)
core_visits clock image image_since faults number Moved s t old new d known came = came
core_visits clock image image_since faults number Answered s t old new d known came = came
core_visits {D = D} clock image image_since faults number Blocked s t old new d known came = (
  came.0,
  came.1,
  ap (λ (shared : SharedData). core_part {D = D} shared known) came.2 ∙ ap (λ (e : Durability). core_part {D = D} old e) came.3,
)

-- ---- what the code asks

-- what is owed, by what was counted
pub owed_so : (s : LoggedSession) (old new : SharedData) (after : SessionData) (was_open : Bool) (before count owed : ℕ) → was_open ≡ is_some s.session.now
    → before ≡ length (entries_in old) → count ≡ length (entries_in new) → owed ≡ (if was_open && nat_eq count before then s.owed else count)
    → IsAfter s old new after (record { session = after; owed = owed; stage = s.stage; core_part = s.core_part })
owed_so s old new after was_open before count owed opened first now is =
    record { session = refl; owes = is ∙ (rw (opened, first, now) refl); stage = refl; placed = refl }
