-- What a visit leaves of a session, and when it has to wait: a visit of a chunk goes on, and one of the core waits where the core's
-- turn is to wait.
use Rattle.std.proofs.Common.{◌≡◌, ℕ, suc, ◌+◌, ◌*◌, ◌-◌, ◌/◌, List, [], Bool, true, false, length, refl, ap, ◌∙◌, sym, subst, Option, None, Some, Result, Ok, Err}
use Rattle.std.specs.Prelude.{slice_get, if◌then◌else◌, MatchBool, nat_lt}
use Rattle.std.proofs.lemmas.Option.{same_Some}
use Rattle.hy_bound.specs.declared.Assign.{Assign}
use Rattle.hy_bound.specs.declared.Bound.{Bound}
use Rattle.hy_bound.specs.declared.Bound.TheVariants.{Select, Group, Insert, Update, Delete, Savepoint, RollbackTo, Release}
use Rattle.hy_bound.specs.declared.Reply.{Reply}
use Rattle.hy_bound.specs.declared.Reply.TheVariants as reply
use Rattle.hy_bound.specs.declared.Txn.{Txn}
use Rattle.hy_bound.specs.Condition.{Condition}
use Rattle.hy_bound.specs.Records.{shape_of}
use Rattle.hy_gathered.specs.Answers.{spread_all}
use Rattle.hy_meaning.specs.Statement.{Table}
use Rattle.hy_value.specs.declared.Value.{Value}
use Rattle.hy_value.specs.declared.change.Change.{Change}
use Rattle.hy_journal.specs.declared.CoreData.{CoreData}
use Rattle.hy_plan.specs.declared.PlanPart.{PlanPart}
use Rattle.hy_bound.specs.declared.Ending.{Ending}
use Rattle.hy_bound.specs.declared.Ending.TheVariants.{Full, RolledBack}
use Rattle.hy_stamp.specs.declared.Label.{Label}
use Rattle.hy_undo.specs.Chunks.{ChunkData}
use Rattle.hy_undo.specs.Places.{Place}
use Rattle.hy_event.specs.declared.SessionData.{SessionData}
use Rattle.hy_event.specs.declared.Open.{Open}
use Rattle.hy_protocol.specs.declared.Phase.{Phase}
use Rattle.hy_protocol.specs.declared.Phase.TheVariants as phase
use Rattle.hy_protocol.specs.declared.Progress.{Progress}
use Rattle.hy_protocol.specs.declared.Progress.TheVariants.{Moved, Answered, Blocked, Ended}
use Rattle.hy_event.specs.Backing.{BackVisit, cells_back}
use Rattle.hy_event.specs.Changing.{changes_from}
use Rattle.hy_event.specs.CoreTurns.{CoreEvent, TakesAtCore, core_after, core_turn}
use Rattle.hy_event.specs.Events.{ChunkEvent, ClosingVisit, PhaseVisit, SessionVisit, StatementVisit, WorkingVisit}
use Rattle.hy_event.specs.Gathering.{ReadPlan, group_read_plan, select_read_plan}
use Rattle.hy_event.specs.Inserting.{InsertVisit, CheckVisit, PlaceVisit, check_turn, free_position, place_turn, sees_key}
use Rattle.hy_event.specs.Needs.{checks_of, need_of}
use Rattle.hy_event.specs.Reading.{PlannedVisit, Reads, gathered_with, read_turn, with_gathered}
use Rattle.hy_event.specs.Sessions.{notes_since, txn_at, viewer_of}
use Rattle.hy_protocol.specs.Turns.{Turn, Done as Rests, Waits, Begins, Visits, Answers, Saves, Enters, Ends, goes_on, refused}
use Rattle.hy_event.specs.Turns.{Step, Takes, TakesBy, after_turn, answer_turn}
use Rattle.hy_event.specs.Undoing.{UndoVisit}
use Rattle.hy_event.specs.Writing.{WriteVisit, cells_by, changes_by, ending_by, told_by as writing_told, write_turn}
use Rattle.hy_undo.specs.declared.refusal.Refusal.{Refusal}
use Rattle.hy_event.specs.declared.Need.{Need}
use Rattle.hy_event.specs.declared.Need.TheVariants.{Core, Chunk, Done}
use Rattle.hy_event.specs.Events.{ChunkPart, CorePart, NeededVisit, part_number}
use Rattle.hy_session.specs.Standing.{needed_number, number_within, width_of}
use Rattle.hy_threads.specs.Visits.{Needs, Visits as ComesTo}
use Rattle.hy_threads.specs.declared.gate.Point.{Point}
use Rattle.hy_value.specs.declared.Kind.{Kind}
use Rattle.hy_world.specs.Points.{visit_at, point_of, visited_of}
use Rattle.hy_world.specs.Shared.{SharedData, ChunkOf, CoreOf, HasToWait, IsVisit, KeepsLayout, KeepsTypes, part_of}
use Rattle.std.specs.Option.{option_map}

-- ---- turns

-- a turn that is not to wait
abbrev IsFree : Turn Change → Type 0
IsFree turn = (by : Label) → turn ≡ Waits by → ⊥

abbrev IsGoing : Progress → Type 0
IsGoing progress = (by : Label) → progress ≡ Blocked by → ⊥

-- what is left of a session by a visit that goes on
pub record IsTurned (session : SessionData) (progress : Progress) (after : SessionData) : Type 0 where
  pub layout : KeepsLayout session after
  pub going : IsGoing progress

moved_goes : IsGoing Moved
moved_goes by e = cc e

answered_goes : IsGoing Answered
answered_goes by e = cc e

ended_goes : IsGoing Ended
ended_goes by e = cc e

turn_goes : (core : Option CoreData) (session : SessionData) (turn : Turn Change) → IsFree turn → IsGoing (after_turn core session turn).1
turn_goes core session Rests free = ended_goes
turn_goes core session (Waits by) free = absurd (free by refl)
turn_goes core session Begins free = answered_goes
turn_goes core session (Visits changes next) free = moved_goes
turn_goes core session (Answers changes reply took records) free = answered_goes
turn_goes core session (Saves statement reply) free = answered_goes
turn_goes core session Enters free = moved_goes
turn_goes core session (Ends ending) free = answered_goes

turn_keeps : (core : Option CoreData) (session : SessionData) (turn : Turn Change) → KeepsLayout session (after_turn core session turn).0
turn_keeps core session Rests = record { shapes = refl; chunks = refl; prunes = refl }
turn_keeps core session (Waits by) = record { shapes = refl; chunks = refl; prunes = refl }
turn_keeps core session Begins = record { shapes = refl; chunks = refl; prunes = refl }
turn_keeps core session (Visits changes next) = record { shapes = refl; chunks = refl; prunes = refl }
turn_keeps core session (Answers changes reply took records) = record { shapes = refl; chunks = refl; prunes = refl }
turn_keeps core session (Saves statement reply) = record { shapes = refl; chunks = refl; prunes = refl }
turn_keeps core session Enters = record { shapes = refl; chunks = refl; prunes = refl }
turn_keeps core session (Ends ending) = record { shapes = refl; chunks = refl; prunes = refl }

-- at a part that is the core or a chunk
turned_by : (core : Option CoreData) (session : SessionData) (turn : Turn Change) (progress : Progress) (after : SessionData) → IsFree turn
    → ◌≡◌ {A = Step} (after, progress) (after_turn core session turn) → IsTurned session progress after
turned_by core session turn progress after free e = record {
  layout = subst (KeepsLayout session) (sym (ap (λ (s : Step). s.0) e)) (turn_keeps core session turn);
  going = subst IsGoing (sym (ap (λ (s : Step). s.1) e)) (turn_goes core session turn free);
}

turned : (session : SessionData) (turn : Turn Change) (progress : Progress) (after : SessionData) → IsFree turn → Takes session turn progress after
    → IsTurned session progress after
turned session turn progress after free e = turned_by None session turn progress after free e

visits_free : (changes : List Change) (next : Phase) → IsFree (Visits changes next)
visits_free changes next by e = cc e

either_free : (b : Bool) (one other : Turn Change) → IsFree one → IsFree other → IsFree (if b then one else other)
either_free true one other free others = free
either_free false one other free others = others

-- ---- a visit of a chunk

read_free : (session : SessionData) (now : Open) (visited tables : ℕ) (statement : Bound) (gathered : List Table) (reply : Reply)
    → IsFree (read_turn session now visited tables statement gathered reply)
read_free session now visited tables statement gathered reply =
    either_free (nat_lt (suc visited) (session.chunks * tables)) (goes_on visited) (answer_turn session now statement gathered [] reply None)
    (visits_free [] (phase.Working (suc visited) 0)) (λ by e. cc e)

read_by : (session : SessionData) (now : Open) (visited : ℕ) (statement : Bound) (plan : ReadPlan) (gathered : List Table)
    (progress : Progress) (after : SessionData) → Reads session now visited statement plan gathered progress after → IsTurned session progress after
read_by session now visited statement plan gathered progress after visit =
    let turn : Turn Change = read_turn session now visited plan.tables statement (spread_all plan.parts gathered) (plan.reply gathered) in
    let here = turned (with_gathered gathered session) turn progress after
    (read_free session now visited plan.tables statement (spread_all plan.parts gathered) (plan.reply gathered)) visit in
    record { layout = record { shapes = here.layout.shapes; chunks = here.layout.chunks; prunes = here.layout.prunes }; going = here.going }

read_turned : (session : SessionData) (now : Open) (visited : ℕ) (statement : Bound) (plan : ReadPlan) (part : Option PlanPart) (places : List Place)
    (progress : Progress) (after : SessionData) → PlannedVisit session now visited statement plan part places progress after
    → IsTurned session progress after
read_turned session now visited statement plan None places progress after visit = absurd visit
read_turned session now visited statement plan (Some part) places progress after visit =
    read_by session now visited statement plan (gathered_with session now plan (visited / session.chunks) part places) progress after visit

write_free : (session : SessionData) (now : Open) (visited count : ℕ) (statement : Bound) (table : ℕ) (sets : Option (List Assign))
    (changes : Result (List Change) Refusal) → IsFree (write_turn session now visited count statement table sets changes)
write_free session now visited count statement table sets (Err refusal) = visits_free [] (phase.Undoing 0 (ending_by table refusal))
write_free session now visited count statement table sets (Ok changes) =
    either_free (nat_lt (suc visited) session.chunks) (Visits changes (phase.Working (suc visited) (count + length changes)))
    (answer_turn session now statement [] changes (writing_told sets (count + length changes)) None)
    (visits_free changes (phase.Working (suc visited) (count + length changes))) (λ by e. cc e)

write_turned : (session : SessionData) (now : Open) (visited count : ℕ) (statement : Bound) (table : ℕ) (sets : Option (List Assign)) (pred : Condition)
    (old : ChunkData) (progress : Progress) (after : SessionData) (new : ChunkData)
    → WriteVisit session now visited count statement table sets pred old progress after new → IsTurned session progress after
write_turned session now visited count statement table sets pred old progress after new visit =
    let changes : Result (List Change) Refusal =
    changes_by table (viewer_of session now) visit.between (cells_by sets pred (viewer_of session now) visit.between) in
    turned session (write_turn session now visited count statement table sets changes) progress after
    (write_free session now visited count statement table sets changes) visit.turn

check_free : (session : SessionData) (now : Open) (visited : ℕ) (statement : Bound) (found : Bool) → IsFree (check_turn session now visited statement found)
check_free session now visited statement found =
    either_free found (answer_turn session now statement [] [] reply.Duplicate None) (goes_on visited) (λ by e. cc e)
    (visits_free [] (phase.Working (suc visited) 0))

place_free : (session : SessionData) (now : Open) (visited chunk : ℕ) (statement : Bound) (table : ℕ) (row : List Value) (found : Option ℕ)
    → IsFree (place_turn session now visited chunk statement table row found)
place_free session now visited chunk statement table row (Some pos) = λ by e. cc e
place_free session now visited chunk statement table row None =
    either_free (nat_lt (suc chunk) session.chunks) (goes_on visited) (refused (Full table)) (visits_free [] (phase.Working (suc visited) 0))
    (visits_free [] (phase.Undoing 0 (Full table)))

insert_by : (session : SessionData) (progress : Progress) (after : SessionData) (checks : Bool) (Check Place : Type 0)
    → (Check → IsTurned session progress after) → (Place → IsTurned session progress after) → MatchBool checks Check Place → IsTurned session progress after
insert_by session progress after true Check Place check place visit = check visit
insert_by session progress after false Check Place check place visit = place visit

insert_turned : (session : SessionData) (now : Open) (visited : ℕ) (statement : Bound) (table : ℕ) (row : List Value) (key : Option ℕ) (old : ChunkData)
    (progress : Progress) (after : SessionData) (new : ChunkData) → InsertVisit session now visited statement table row key old progress after new
    → IsTurned session progress after
insert_turned session now visited statement table row key old progress after new visit =
    insert_by session progress after (nat_lt visited (checks_of session key))
    (CheckVisit session now visited statement row key old progress after new)
    (PlaceVisit session now visited (visited - checks_of session key) statement table row old progress after new)
    (λ check. turned session (check_turn session now visited statement (sees_key (viewer_of session now) row key old.places)) progress after
    (check_free session now visited statement (sees_key (viewer_of session now) row key old.places)) check.turn)
    (λ place. turned session
    (place_turn session now visited (visited - checks_of session key) statement table row (free_position now.cover place.between)) progress after
    (place_free session now visited (visited - checks_of session key) statement table row (free_position now.cover place.between)) place.turn) visit

undo_turned : (session : SessionData) (now : Open) (visited : ℕ) (cause : Ending) (old : ChunkData) (progress : Progress) (after : SessionData)
    (new : ChunkData) → UndoVisit session now visited cause old progress after new → IsTurned session progress after
undo_turned session now visited cause old progress after new visit =
    turned session (Visits [] (phase.Undoing (suc visited) cause)) progress after (visits_free [] (phase.Undoing (suc visited) cause)) visit.turn

back_turned : (session : SessionData) (now : Open) (visited : ℕ) (name : List ℕ) (old : ChunkData) (progress : Progress) (after : SessionData)
    (new : ChunkData) → BackVisit session now visited name old progress after new → IsTurned session progress after
back_turned session now visited name old progress after new visit =
    let changes : List Change = changes_from old.table old.first (viewer_of session now) (cells_back (notes_since now name) old) old.places in
    turned session (Visits changes (phase.Working (suc visited) 0)) progress after (visits_free changes (phase.Working (suc visited) 0)) visit.turn

statement_turned : (session : SessionData) (now : Open) (visited count : ℕ) (statement : Bound) (old : ChunkData) (progress : Progress)
    (after : SessionData) (new : ChunkData) → StatementVisit session now visited count statement old progress after new → IsTurned session progress after
statement_turned session now visited count (Select tables ons pred items) old progress after new visit =
    let plan : ReadPlan = select_read_plan session.shapes tables ons pred items in
    read_turned session now visited (Select tables ons pred items) plan (slice_get plan.parts (visited / session.chunks)) old.places progress after visit.turn
statement_turned session now visited count (Group table pred key aggregate) old progress after new visit =
    let plan : ReadPlan = group_read_plan session.shapes table pred key aggregate in
    read_turned session now visited (Group table pred key aggregate) plan (slice_get plan.parts (visited / session.chunks)) old.places progress after
    visit.turn
statement_turned session now visited count (Insert table row) old progress after new visit =
    insert_turned session now visited (Insert table row) table row (shape_of session.shapes table).key old progress after new visit
statement_turned session now visited count (Update table sets pred) old progress after new visit =
    write_turned session now visited count (Update table sets pred) table (Some sets) pred old progress after new visit
statement_turned session now visited count (Delete table pred) old progress after new visit =
    write_turned session now visited count (Delete table pred) table None pred old progress after new visit
statement_turned session now visited count (Savepoint name) old progress after new visit = absurd visit
statement_turned session now visited count (RollbackTo name) old progress after new visit =
    back_turned session now visited name old progress after new visit
statement_turned session now visited count (Release name) old progress after new visit = absurd visit

closing_turned : (session : SessionData) (now : Open) (commits : Bool) (old : ChunkData) (progress : Progress) (after : SessionData) (new : ChunkData)
    → ClosingVisit session now commits old progress after new → IsTurned session progress after
closing_turned session now true old progress after new visit = absurd visit
closing_turned session now false old progress after new visit = undo_turned session now 0 RolledBack old progress after new visit

working_turned : (session : SessionData) (txn : Txn) (now : Open) (visited count : ℕ) (found : Option Bound) (old : ChunkData) (progress : Progress)
    (after : SessionData) (new : ChunkData) → WorkingVisit session txn now visited count found old progress after new → IsTurned session progress after
working_turned session txn now visited count None old progress after new visit = closing_turned session now txn.commits old progress after new visit
working_turned session txn now visited count (Some statement) old progress after new visit =
    statement_turned session now visited count statement old progress after new visit

phase_turned : (session : SessionData) (txn : Txn) (now : Open) (at : Phase) (old : ChunkData) (progress : Progress) (after : SessionData) (new : ChunkData)
    → PhaseVisit session txn now at old progress after new → IsTurned session progress after
phase_turned session txn now (phase.Working visited count) old progress after new visit =
    working_turned session txn now visited count (slice_get txn.statements (length now.replies)) old progress after new visit
phase_turned session txn now (phase.Stamping visited) old progress after new visit =
    turned session (Visits [] (phase.Stamping (suc visited))) progress after (visits_free [] (phase.Stamping (suc visited))) visit.turn
phase_turned session txn now (phase.Undoing visited cause) old progress after new visit =
    undo_turned session now visited cause old progress after new visit

session_turned : (session : SessionData) (txn : Option Txn) (now : Option Open) (old : ChunkData) (progress : Progress) (after : SessionData)
    (new : ChunkData) → SessionVisit session txn now old progress after new → IsTurned session progress after
session_turned session None now old progress after new visit = absurd visit
session_turned session (Some txn) None old progress after new visit = absurd visit
session_turned session (Some txn) (Some now) old progress after new visit = phase_turned session txn now now.phase old progress after new visit

-- a visit of a chunk goes on
pub chunk_turned : (session : SessionData) (old : ChunkData) (progress : Progress) (after : SessionData) (new : ChunkData)
    → ChunkEvent session old progress after new → IsTurned session progress after
chunk_turned session old progress after new visit = session_turned session (txn_at session) session.now old progress after new visit

-- ---- a visit of the core

-- a session waits at the core: it and the core are as they were
pub record IsWaiting (session : SessionData) (core : CoreData) (by : Label) (after : SessionData) (new : CoreData) : Type 0 where
  pub turn : core_turn session core ≡ Some (Waits by)
  pub same : after ≡ session
  pub core_same : new ≡ core

-- or it goes on
pub record IsGoingOn (session : SessionData) (core : CoreData) (progress : Progress) (after : SessionData) : Type 0 where
  pub turned : IsTurned session progress after
  pub free : (by : Label) → core_turn session core ≡ Some (Waits by) → ⊥

-- a visit of the core, by what it came to
abbrev pub CameTo : SessionData → CoreData → Progress → SessionData → CoreData → Type 0
CameTo session core (Blocked by) after new = IsWaiting session core by after new
CameTo session core Moved after new = IsGoingOn session core Moved after
CameTo session core Answered after new = IsGoingOn session core Answered after
CameTo session core Ended after new = IsGoingOn session core Ended after

came_of : (session : SessionData) (core : CoreData) (progress : Progress) (after : SessionData) (new : CoreData)
    → IsGoingOn session core progress after → CameTo session core progress after new
came_of session core (Blocked by) after new goes = absurd (goes.turned.going by refl)
came_of session core Moved after new goes = goes
came_of session core Answered after new goes = goes
came_of session core Ended after new goes = goes

came_free : (session : SessionData) (core : CoreData) (turn : Turn Change) (progress : Progress) (after : SessionData) (new : CoreData)
    → core_turn session core ≡ Some turn → IsFree turn → TakesBy core session turn progress after → CameTo session core progress after new
came_free session core turn progress after new found free takes =
    came_of session core progress after new (record {
      turned = turned_by (Some core) session turn progress after free takes;
      free = λ by h. free by (same_Some turn (Waits by) (sym found ∙ h));
    })

came_by : (session : SessionData) (core : CoreData) (turn : Turn Change) (progress : Progress) (after : SessionData) (new : CoreData)
    → core_turn session core ≡ Some turn → TakesBy core session turn progress after → new ≡ core_after session core turn
    → CameTo session core progress after new
came_by session core (Waits by) progress after new found takes is =
    subst (λ (p : Progress). CameTo session core p after new) (sym (ap (λ (s : Step). s.1) takes))
    (record { turn = found; same = ap (λ (s : Step). s.0) takes; core_same = is })
came_by session core Rests progress after new found takes is = came_free session core Rests progress after new found (λ by e. cc e) takes
came_by session core Begins progress after new found takes is = came_free session core Begins progress after new found (λ by e. cc e) takes
came_by session core (Visits changes next) progress after new found takes is =
    came_free session core (Visits changes next) progress after new found (visits_free changes next) takes
came_by session core (Answers changes reply took records) progress after new found takes is =
    came_free session core (Answers changes reply took records) progress after new found (λ by e. cc e) takes
came_by session core (Saves statement reply) progress after new found takes is =
    came_free session core (Saves statement reply) progress after new found (λ by e. cc e) takes
came_by session core Enters progress after new found takes is = came_free session core Enters progress after new found (λ by e. cc e) takes
came_by session core (Ends ending) progress after new found takes is =
    came_free session core (Ends ending) progress after new found (λ by e. cc e) takes

came_at : (session : SessionData) (core : CoreData) (found : Option (Turn Change)) (progress : Progress) (after : SessionData) (new : CoreData)
    → core_turn session core ≡ found → TakesAtCore session core found progress after new → CameTo session core progress after new
came_at session core None progress after new e takes = absurd takes
came_at session core (Some turn) progress after new e takes = came_by session core turn progress after new e takes.0 takes.1

pub core_came : (session : SessionData) (core : CoreData) (progress : Progress) (after : SessionData) (new : CoreData)
    → CoreEvent session core progress after new → CameTo session core progress after new
core_came session core progress after new visit = came_at session core (core_turn session core) progress after new refl visit

pub came_layout : (session : SessionData) (core : CoreData) (progress : Progress) (after : SessionData) (new : CoreData)
    → CameTo session core progress after new → KeepsLayout session after
came_layout session core (Blocked by) after new came =
    record {
      shapes = ap (λ (s : SessionData). s.shapes) came.same;
      chunks = ap (λ (s : SessionData). s.chunks) came.same;
      prunes = ap (λ (s : SessionData). s.prunes) came.same;
    }
came_layout session core Moved after new came = came.turned.layout
came_layout session core Answered after new came = came.turned.layout
came_layout session core Ended after new came = came.turned.layout

-- ---- what a gate is told

core_told : (number : ℕ) (session : SessionData) (core : CoreData) (progress : Progress) (after : SessionData) (new : CoreData)
    → IsVisit number session (CoreOf core) after (CoreOf new) → CameTo session core progress after new
    → ComesTo (IsVisit number) HasToWait (visited_of progress) session (CoreOf core) after (CoreOf new)
core_told number session core (Blocked by) after new visit came = ((by, came.turn), came.same, ap CoreOf came.core_same)
core_told number session core Moved after new visit came = (visit, λ waits. came.free waits.0 waits.1)
core_told number session core Answered after new visit came = (visit, λ waits. came.free waits.0 waits.1)
core_told number session core Ended after new visit came = (visit, λ waits. came.free waits.0 waits.1)

chunk_told : (number : ℕ) (session : SessionData) (types : List Kind) (chunk : ChunkData) (progress : Progress) (after : SessionData) (new : SharedData)
    → IsVisit number session (ChunkOf types chunk) after new → IsGoing progress
    → ComesTo (IsVisit number) HasToWait (visited_of progress) session (ChunkOf types chunk) after new
chunk_told number session types chunk (Blocked by) after new visit goes = absurd (goes by refl)
chunk_told number session types chunk Moved after new visit goes = (visit, λ waits. waits)
chunk_told number session types chunk Answered after new visit goes = (visit, λ waits. waits)
chunk_told number session types chunk Ended after new visit goes = (visit, λ waits. waits)

told_by : (number : ℕ) (need : Need) (session : SessionData) (old : SharedData) (progress : Progress) (after : SessionData) (new : SharedData)
    → need_of session ≡ need → part_number session (need_of session) ≡ Some number
    → NeededVisit need session (part_of old) progress after (part_of new) → KeepsTypes old new
    → ComesTo (IsVisit number) HasToWait (visited_of progress) session old after new
told_by number Core session (CoreOf core) progress after (CoreOf new) e numbered visit types =
    let came = core_came session core progress after new visit in
    core_told number session core progress after new
    (record {
      progress = progress;
      needed = numbered;
      visit = subst (λ (need : Need). NeededVisit need session (CorePart core) progress after (CorePart new)) (sym e) visit;
      types = types;
      layout = came_layout session core progress after new came;
    }) came
told_by number Core session (CoreOf core) progress after (ChunkOf kinds new) e numbered visit types = absurd visit
told_by number Core session (ChunkOf kinds chunk) progress after (CoreOf new) e numbered visit types = absurd visit
told_by number Core session (ChunkOf kinds chunk) progress after (ChunkOf others new) e numbered visit types = absurd visit
told_by number (Chunk table at) session (CoreOf core) progress after (CoreOf new) e numbered visit types = absurd visit
told_by number (Chunk table at) session (CoreOf core) progress after (ChunkOf kinds new) e numbered visit types = absurd visit
told_by number (Chunk table at) session (ChunkOf kinds chunk) progress after (CoreOf new) e numbered visit types = absurd visit
told_by number (Chunk table at) session (ChunkOf kinds chunk) progress after (ChunkOf others new) e numbered visit types =
    let here = chunk_turned session chunk progress after new visit in
    chunk_told number session kinds chunk progress after (ChunkOf others new)
    (record {
      progress = progress;
      needed = numbered;
      visit = subst (λ (need : Need). NeededVisit need session (ChunkPart chunk) progress after (ChunkPart new)) (sym e) visit;
      types = types;
      layout = here.layout;
    }) here.going
told_by number Done session old progress after new e numbered visit types = absurd visit

-- a visit as a gate is told of it
pub visit_told : (number : ℕ) (session : SessionData) (old : SharedData) (progress : Progress) (after : SessionData) (new : SharedData)
    → part_number session (need_of session) ≡ Some number → NeededVisit (need_of session) session (part_of old) progress after (part_of new)
    → KeepsTypes old new → ComesTo (IsVisit number) HasToWait (visited_of progress) session old after new
visit_told number session old progress after new numbered visit types =
    told_by number (need_of session) session old progress after new refl numbered visit types

within_is : (count number found : ℕ) (is_less : Bool) → (if is_less then Some number else None) ≡ Some found → number ≡ found
within_is count number found true e = same_Some number found e
within_is count number found false e = absurd (cc e)

-- the part that a point names is the one that the session needs
numbered_by : (session : SessionData) (given found : Option ℕ) (point : Point) → number_within (width_of session) given ≡ found
    → option_map (visit_at session) found ≡ Some point → given ≡ Some point.part
numbered_by session None found point h e = absurd (cc (e, h))
numbered_by session (Some number) None point h e = absurd (cc e)
numbered_by session (Some number) (Some found) point h e =
    let same : visit_at session found ≡ point = same_Some (visit_at session found) point e in
    ap Some (within_is (width_of session) number found (nat_lt number (width_of session)) h ∙ ap (λ (p : Point). p.part) same)

pub numbered : (session : SessionData) (number : ℕ) → Needs (point_of session) number → part_number session (need_of session) ≡ Some number
numbered session number needs =
    numbered_by session (part_number session (need_of session)) (needed_number session) needs.0 refl needs.1 ∙ ap Some needs.2
