-- What a visit of a SELECT makes of a session, put together.
use Rattle.std.proofs.Common.{◌≡◌, ℕ, ◌/◌, ◌^◌, ◌<◌, ◌≤◌, List, [], length, ap, sym, ◌∙◌, subst, arith, Option, Some, None}
use Rattle.std.specs.Prelude.{slice_get}
use Rattle.hy_limits.specs.declared.TheConstants.{MOST_TXNS}
use Rattle.hy_stamp.specs.declared.Label.{Label}
use Rattle.hy_stamp.specs.Times.{IsLabel}
use Rattle.hy_bound.specs.declared.Bound.{Bound}
use Rattle.hy_bound.specs.declared.Bound.TheVariants.{Select, Group, Insert, Update, Delete, Savepoint, RollbackTo, Release}
use Rattle.hy_bound.specs.declared.Record.{Record}
use Rattle.hy_bound.specs.declared.Reply.{Reply}
use Rattle.hy_bound.specs.declared.Txn.{Txn}
use Rattle.hy_plan.specs.Cells.{GatheredRows}
use Rattle.hy_plan.specs.declared.PlanPart.{PlanPart}
use Rattle.hy_meaning.specs.Statement.{Table}
use Rattle.hy_undo.specs.Chunks.{ChunkData}
use Rattle.hy_event.specs.declared.SessionData.{SessionData}
use Rattle.hy_event.specs.declared.Open.{Open}
use Rattle.hy_protocol.specs.declared.Phase.{Phase}
use Rattle.hy_protocol.specs.declared.Phase.TheVariants.{Working}
use Rattle.hy_protocol.specs.declared.Progress.{Progress}
use Rattle.hy_event.specs.Ended.{statements_in}
use Rattle.hy_event.specs.Events.{ChunkEvent, PhaseVisit, SessionVisit, StatementVisit, WorkingVisit}
use Rattle.hy_event.specs.Gathering.{ReadPlan, with_rows}
use Rattle.hy_event.specs.Reading.{PlannedVisit, ReadVisit, gathered_with, with_gathered}
use Rattle.hy_event.specs.Sessions.{label_of, txn_at}
use Rattle.hy_protocol.specs.Turns.{Answers, Visits}
use Rattle.hy_event.specs.Turns.{Takes, after_turn, with_changed}
use Rattle.hy_session.specs.declared.reading.ReadStep.{ReadStep}
use Rattle.hy_session.specs.declared.reading.ReadStep.TheVariants.{More, Answer}
use Rattle.hy_session.specs.Near.{present_statement}
use Rattle.hy_visit.specs.Readers.{IsPlanOf}
use Rattle.hy_session.specs.Reading.{IsStep, IsStepOf, KeepsPiece, step_turn}

-- a session of the limits has labels
pub named : (session : SessionData) (label : Label) → label ≡ label_of session → label.session < 2 ^ 32 → length session.done < length session.program
    → length session.program ≤ MOST_TXNS → IsLabel label
named session label is within at few =
    let number : session.number < 2 ^ 32 = subst (λ (l : Label). l.session < 2 ^ 32) is within in
    subst IsLabel (sym is) (record { from_one = omega arith; few = omega arith; session = number })

-- a session that has gathered a piece
abbrev pub with_piece : ℕ → Table → SessionData → SessionData
with_piece number rows = with_changed (λ (now : Open). record now { gathered = with_rows number rows now.gathered })

pub piece_kept : (session : SessionData) (now : Open) (number : ℕ) (rows : Table) (gathered : List Table) → session.now ≡ Some now
    → gathered ≡ with_rows number rows now.gathered → with_piece number rows session ≡ with_gathered gathered session
piece_kept session now number rows gathered opened is =
    let keeps : Option Open → SessionData = λ held. with_piece number rows (record session { now = held }) in
    let has : Option Open → SessionData = λ held. with_gathered gathered (record session { now = held }) in
    let same : keeps (Some now) ≡ has (Some now) = ap (λ (tables : List Table). record session { now = Some (record now { gathered = tables }) }) (sym is) in
    ap keeps opened ∙ (same ∙ sym (ap has opened))

-- a SELECT is visited as its plan says
planned_visit : (session : SessionData) (now : Open) (visited count : ℕ) (statement : Bound) (plan : ReadPlan) (old : ChunkData) (progress : Progress)
    (after : SessionData) (new : ChunkData) → IsPlanOf session.shapes statement plan → ReadVisit session now visited statement plan old progress after new
    → StatementVisit session now visited count statement old progress after new
planned_visit session now visited count (Select tables ons pred items) plan old progress after new is visit =
    subst (λ (p : ReadPlan). ReadVisit session now visited (Select tables ons pred items) p old progress after new) is visit
planned_visit session now visited count (Group table pred key aggregate) plan old progress after new is visit =
    subst (λ (p : ReadPlan). ReadVisit session now visited (Group table pred key aggregate) p old progress after new) is visit
planned_visit session now visited count (Insert table row) plan old progress after new is visit = absurd is
planned_visit session now visited count (Update table sets pred) plan old progress after new is visit = absurd is
planned_visit session now visited count (Delete table pred) plan old progress after new is visit = absurd is
planned_visit session now visited count (Savepoint name) plan old progress after new is visit = absurd is
planned_visit session now visited count (RollbackTo name) plan old progress after new is visit = absurd is
planned_visit session now visited count (Release name) plan old progress after new is visit = absurd is

-- the present statement of an open transaction is visited
pub session_visit : (session : SessionData) (txn : Option Txn) (held : Option Open) (now : Open) (visited count : ℕ) (statement : Bound) (old : ChunkData)
    (progress : Progress) (after : SessionData) (new : ChunkData) → held ≡ Some now → now.phase ≡ Working visited count
    → slice_get (statements_in txn) (length now.replies) ≡ Some statement → StatementVisit session now visited count statement old progress after new
    → SessionVisit session txn held old progress after new
session_visit session None held now visited count statement old progress after new opened working present visit = absurd cc
session_visit session (Some txn) held now visited count statement old progress after new opened working present visit =
    let at_present : WorkingVisit session txn now visited count (slice_get txn.statements (length now.replies)) old progress after new =
    subst (λ (s : Option Bound). WorkingVisit session txn now visited count s old progress after new) (sym present) visit in
    let in_phase : PhaseVisit session txn now now.phase old progress after new =
    subst (λ (p : Phase). PhaseVisit session txn now p old progress after new) (sym working) at_present in
    subst (λ (o : Option Open). SessionVisit session (Some txn) o old progress after new) (sym opened) in_phase

-- the visit of a SELECT, from what came of it and the turn that was taken
pub read_event : (session : SessionData) (now : Open) (visited count : ℕ) (statement : Bound) (step : ReadStep) (old : ChunkData) (progress : Progress)
    (after : SessionData) (new : ChunkData) → session.now ≡ Some now → now.phase ≡ Working visited count → present_statement session now ≡ Some statement
    → IsStep session now visited statement old.places step
    → ((gathered : List Table) → KeepsPiece now gathered step → Takes (with_gathered gathered session) (step_turn step) progress after)
    → new ≡ old → ChunkEvent session old progress after new
read_event session now visited count statement step old progress after new opened working present is takes same =
    let plan : ReadPlan = is.plan in
    let gathered : List Table = gathered_with session now plan (visited / session.chunks) is.part old.places in
    let turn : (after, progress) ≡ after_turn None (with_gathered gathered session) (step_turn step) = takes gathered is.keeps in
    let taken : PlannedVisit session now visited statement plan (Some is.part) old.places progress after =
    turn ∙ ap (after_turn None (with_gathered gathered session)) is.turn in
    let planned : PlannedVisit session now visited statement plan (slice_get plan.parts (visited / session.chunks)) old.places progress after =
    subst (λ (p : Option PlanPart). PlannedVisit session now visited statement plan p old.places progress after) (sym is.found) taken in
    let visit : ReadVisit session now visited statement plan old progress after new = record { chunk = same; turn = planned } in
    session_visit session (txn_at session) session.now now visited count statement old progress after new opened working present
    (planned_visit session now visited count statement plan old progress after new is.planned visit)

-- a piece was kept
pub kept_event : (session : SessionData) (old : ChunkData) (progress : Progress) (after : SessionData) (new : ChunkData) (step : ReadStep)
    (number visited : ℕ) (piece : GatheredRows) → IsStepOf session old.places step → step ≡ More number piece visited
    → Takes (with_piece number piece.rows session) (Visits [] (Working visited 0)) progress after → new ≡ old → ChunkEvent session old progress after new
kept_event session old progress after new step number visited piece reads is turn same =
    let takes : (gathered : List Table) → KeepsPiece reads.now gathered (More number piece visited)
    → Takes (with_gathered gathered session) (Visits [] (Working visited 0)) progress after = λ gathered keeps.
    subst (λ (s : SessionData). Takes s (Visits [] (Working visited 0)) progress after)
    (piece_kept session reads.now number piece.rows gathered reads.opened keeps) turn in
    let comes : IsStep session reads.now reads.visited reads.statement old.places (More number piece visited) =
    subst (λ (s : ReadStep). IsStep session reads.now reads.visited reads.statement old.places s) is reads.comes in
    read_event session reads.now reads.visited reads.count reads.statement (More number piece visited) old progress after new
    reads.opened reads.working reads.present comes takes same

-- an answer was given
pub given_event : (session : SessionData) (old : ChunkData) (progress : Progress) (after : SessionData) (new : ChunkData) (step : ReadStep)
    (reply : Reply) (records : List Record) → IsStepOf session old.places step → step ≡ Answer reply records
    → ((gathered : List Table) → Takes (with_gathered gathered session) (Answers [] reply None records) progress after)
    → new ≡ old → ChunkEvent session old progress after new
given_event session old progress after new step reply records reads is turn same =
    let comes : IsStep session reads.now reads.visited reads.statement old.places (Answer reply records) =
    subst (λ (s : ReadStep). IsStep session reads.now reads.visited reads.statement old.places s) is reads.comes in
    read_event session reads.now reads.visited reads.count reads.statement (Answer reply records) old progress after new
    reads.opened reads.working reads.present comes (λ gathered keeps. turn gathered) same
