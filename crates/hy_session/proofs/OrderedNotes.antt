-- What an open transaction wrote stays in order.
use Rattle.std.proofs.Common.{◌≡◌, ℕ, zero, suc, ◌<◌, List, [], ◌∷◌, Bool, true, false, Option, None, Some, Result, Ok, Err, map, sym, ap, subst, inl, inr, ◌-◌}
use Rattle.std.specs.Prelude.{◌⊎◌, IfOk, OnErr, nat_lt, slice_get, ◌/◌}
use Rattle.std.specs.Bool.{MatchBool}
use Rattle.std.specs.Option.{option_map}
use Rattle.std.specs.List.{AllByRecursion}
use Rattle.std.specs.Cmp.{ranks}
use Rattle.std.specs.Ordering.{MatchOrdering, nat_cmp, ordering_then}
use Rattle.std.specs.declared.cmp.Ordering.{Ordering}
use Rattle.std.specs.declared.cmp.Ordering.TheVariants.{Less, Equal, Greater}
use Rattle.hy_value.specs.declared.Value.{Value}
use Rattle.hy_value.specs.declared.change.Change.{Change}
use Rattle.hy_notes.specs.Notes.{Ascends, order_of}
use Rattle.hy_notes.specs.Telling.{NotesTell}
use Rattle.hy_bound.specs.declared.Bound.{Bound}
use Rattle.hy_bound.specs.declared.Bound.TheVariants.{Select, Group, Insert, Update, Delete, Savepoint, RollbackTo, Release}
use Rattle.hy_bound.specs.Records.{shape_of}
use Rattle.hy_plan.specs.declared.PlanPart.{PlanPart}
use Rattle.hy_undo.specs.Chunks.{ChunkData}
use Rattle.hy_meaning.specs.Statement.{Table}
use Rattle.hy_protocol.specs.declared.Phase.{Phase}
use Rattle.hy_protocol.specs.declared.Phase.TheVariants.{Working, Stamping, Undoing}
use Rattle.hy_protocol.specs.declared.Progress.{Progress}
use Rattle.hy_protocol.specs.Turns.{Turn, Done, Waits, Begins, Visits, Answers, Saves, Enters, Ends}
use Rattle.hy_event.specs.declared.SessionData.{SessionData}
use Rattle.hy_event.specs.declared.Open.{Open}
use Rattle.hy_event.specs.declared.SavedNotes.{SavedNotes}
use Rattle.hy_event.specs.Backing.{cells_back}
use Rattle.hy_event.specs.Changing.{changes_from}
use Rattle.hy_event.specs.Events.{StatementVisit}
use Rattle.hy_event.specs.Gathering.{ReadPlan, group_read_plan, select_read_plan}
use Rattle.hy_event.specs.Inserting.{CheckVisit, PlaceVisit}
use Rattle.hy_event.specs.Needs.{checks_of}
use Rattle.hy_event.specs.Reading.{PlannedVisit, ReadVisit, Reads, gathered_with, read_turn, with_gathered}
use Rattle.hy_gathered.specs.Answers.{spread_all}
use Rattle.hy_event.specs.Sessions.{notes_since, place_noted, viewer_of, written, written_in}
use Rattle.hy_event.specs.Stamping.{StampVisit}
use Rattle.hy_event.specs.Turns.{Step, Takes, after_turn, with_notes, with_open}
use Rattle.hy_event.specs.Undoing.{UndoVisit}
use Rattle.hy_bound.specs.declared.Ending.{Ending}
use Rattle.hy_session.specs.declared.visitors.Visitor.{Visitor}
use Rattle.hy_session.specs.Visitors.{ForVisitor, IsVisitor}
use Rattle.hy_session.specs.Limits.{HasOrder, IsInOrder, IsSavedInOrder}
use Rattle.hy_session.specs.Savepoints.{noted_since}
use Rattle.hy_session.proofs.OpenSavepoints.{more_in_order, since_in_order, saved_in_order}
use Rattle.hy_session.specs.Seeking.{Rises, comes_before}
use Rattle.hy_session.proofs.OrderedPlaces.{is_before}

-- ---- notes in order are of positions in order

less_by : (o p : Ordering) (a b c d : ℕ) → MatchOrdering o (a < b) (a ≡ b) (b < a) → MatchOrdering p (c < d) (c ≡ d) (d < c) → ordering_then o p ≡ Less
    → (a < b) ⊎ ((a ≡ b) × (c < d))
less_by Less p a b c d m n h = inl m
less_by Equal Less a b c d m n h = inr (m, n)
less_by Equal Equal a b c d m n h = absurd (cc)
less_by Equal Greater a b c d m n h = absurd (cc)
less_by Greater p a b c d m n h = absurd (cc)

less_before : (note : Change) (table pos : ℕ) → order_of note table pos ≡ Less → comes_before table pos (place_noted note) ≡ true
less_before note table pos h =
    is_before table pos (place_noted note)
    (less_by (nat_cmp note.table table) (nat_cmp note.pos pos) note.table table note.pos pos (ranks note.table table) (ranks note.pos pos) h)

all_before : (note : Change) (notes : List Change) → AllByRecursion (λ later. order_of note later.table later.pos ≡ Less) notes
    → AllByRecursion (λ later. comes_before later.table later.pos (place_noted note) ≡ true) (map place_noted notes)
all_before note [] all = tt
all_before note (later ∷ notes) all = (less_before note later.table later.pos all.0, all_before note notes all.1)

pub notes_rise : (notes : List Change) → Ascends notes → Rises (map place_noted notes)
notes_rise [] up = tt
notes_rise (note ∷ notes) up = (all_before note notes up.0, notes_rise notes up.1)

written_rises_in : (now : Open) (phase : Phase) → IsInOrder now → Rises (written_in now phase)
written_rises_in now (Working visited count) order = notes_rise now.notes order.notes
written_rises_in now (Stamping visited) order = order.wrote
written_rises_in now (Undoing visited cause) order = notes_rise now.notes order.notes

-- what it noted since a savepoint is in order
pub since_rises : (saved : List SavedNotes) (number : ℕ) → IsSavedInOrder saved → Rises (map place_noted (noted_since saved number))
since_rises [] number order = tt
since_rises (one ∷ saved) zero order = notes_rise one.since order.0
since_rises (one ∷ saved) (suc number) order = since_rises saved number order.1

-- what an open transaction wrote is in order
pub written_rises : (now : Open) → IsInOrder now → Rises (written now)
written_rises now order = written_rises_in now now.phase order

pub open_saved : (one : Option Open) (now : Open) → HasOrder one → one ≡ Some now → IsSavedInOrder now.saved
open_saved one now order is = (subst HasOrder is order).saved

pub open_rises : (one : Option Open) (now : Open) → HasOrder one → one ≡ Some now → Rises (written now)
open_rises one now order is = written_rises now (subst HasOrder is order)

-- ---- a turn keeps that order

changed : (change : Open → Open) (one : Option Open) → ((now : Open) → IsInOrder now → IsInOrder (change now)) → HasOrder one → HasOrder (option_map change one)
changed change None keeps order = tt
changed change (Some now) keeps order = keeps now order

turned : NotesTell → (session : SessionData) (turn : Turn Change) → HasOrder session.now → HasOrder (after_turn None session turn).0.now
turned tell session Done order = order
turned tell session (Waits by) order = order
turned tell session Begins order = tt
turned tell session (Visits changes phase) order =
    changed _ session.now (λ now one. record {
      notes = more_in_order tell changes now.notes one.notes;
      saved = since_in_order tell changes now.saved one.saved;
      wrote = one.wrote;
    }) order
turned tell session (Answers changes reply took records) order =
    changed _ session.now (λ now one. record {
      notes = more_in_order tell changes now.notes one.notes;
      saved = since_in_order tell changes now.saved one.saved;
      wrote = one.wrote;
    }) order
turned tell session (Saves statement reply) order =
    changed _ session.now (λ now one. record { notes = one.notes; saved = saved_in_order statement now.saved one.saved; wrote = one.wrote }) order
turned tell session Enters order = changed _ session.now (λ now one. record { notes = tt; saved = tt; wrote = written_rises now one }) order
turned tell session (Ends ending) order = tt

taken : NotesTell → (session after : SessionData) (turn : Turn Change) (progress : Progress) → Takes session turn progress after → HasOrder session.now
    → HasOrder after.now
taken tell session after turn progress takes order =
    subst (λ (s : SessionData). HasOrder s.now) (sym (ap (λ (step : Step). step.0) takes)) (turned tell session turn order)

-- ---- and so does a visit

module _ (tell : NotesTell) (session : SessionData) (now : Open) (order : HasOrder session.now) (old new : ChunkData) (progress : Progress)
    (after : SessionData) where
  reads : (visited : ℕ) (statement : Bound) (plan : ReadPlan) (gathered : List Table) → Reads session now visited statement plan gathered progress after
      → HasOrder after.now
  reads visited statement plan gathered visit =
      taken tell (with_gathered gathered session) after
      (read_turn session now visited plan.tables statement (spread_all plan.parts gathered) (plan.reply gathered)) progress visit
      (changed (λ (one : Open). record one { gathered = gathered }) session.now (λ open_one one. record { notes = one.notes; saved = one.saved; wrote = one.wrote }) order)

  planned : (visited : ℕ) (statement : Bound) (plan : ReadPlan) (part : Option PlanPart) → PlannedVisit session now visited statement plan part old.places progress after
      → HasOrder after.now
  planned visited statement plan None visit = absurd visit
  planned visited statement plan (Some part) visit =
      reads visited statement plan (gathered_with session now plan (visited / session.chunks) part old.places) visit

  read_visit : (visited : ℕ) (statement : Bound) (plan : ReadPlan) → ReadVisit session now visited statement plan old progress after new → HasOrder after.now
  read_visit visited statement plan visit = planned visited statement plan (slice_get plan.parts (visited / session.chunks)) visit.turn

  insert_by : (b : Bool) (visited number table : ℕ) (statement : Bound) (row : List Value) (key : Option ℕ)
      → MatchBool b (CheckVisit session now visited statement row key old progress after new)
      (PlaceVisit session now visited number statement table row old progress after new)
      → HasOrder after.now
  insert_by true visited number table statement row key visit = taken tell session after _ progress visit.turn order
  insert_by false visited number table statement row key visit = taken tell session after _ progress visit.turn order

  pub statement_visit : (visited count : ℕ) (statement : Bound) → StatementVisit session now visited count statement old progress after new → HasOrder after.now
  statement_visit visited count (Select tables ons pred items) visit =
      read_visit visited (Select tables ons pred items) (select_read_plan session.shapes tables ons pred items) visit
  statement_visit visited count (Group table pred key aggregate) visit =
      read_visit visited (Group table pred key aggregate) (group_read_plan session.shapes table pred key aggregate) visit
  statement_visit visited count (Insert table row) visit =
      insert_by (nat_lt visited (checks_of session (shape_of session.shapes table).key)) visited
      (visited - checks_of session (shape_of session.shapes table).key) table (Insert table row) row (shape_of session.shapes table).key visit
  statement_visit visited count (Update table sets pred) visit = taken tell session after _ progress visit.turn order
  statement_visit visited count (Delete table pred) visit = taken tell session after _ progress visit.turn order
  statement_visit visited count (Savepoint name) visit = absurd visit
  statement_visit visited count (RollbackTo name) visit =
      taken tell session after (Visits (changes_from old.table old.first (viewer_of session now) (cells_back (notes_since now name) old) old.places)
      (Working (suc visited) 0)) progress visit.turn order
  statement_visit visited count (Release name) visit = absurd visit

-- ---- of what an open transaction does alone

module _ (tell : NotesTell) (session : SessionData) (visitor : Visitor) (now after : Open) (old new : ChunkData) (is : IsVisitor session visitor)
    (opened : session.now ≡ Some now) (order : HasOrder session.now) where
  pub worked_in_order : {E : Type 0} (visited count : ℕ) (statement : Bound) (result : Result Progress E)
      → IfOk result (λ progress. ForVisitor visitor now after (λ one next. StatementVisit one now visited count statement old progress next new))
      → OnErr result (after ≡ now) → IsInOrder after
  worked_in_order {E = E} visited count statement (Ok progress) did kept =
      statement_visit tell session now order old new progress (with_open after session) visited count statement (did session is opened)
  worked_in_order {E = E} visited count statement (Err e) did kept = subst IsInOrder (sym kept) (subst HasOrder opened order)

  pub stamped_in_order : (visited : ℕ) (progress : Progress)
      → ForVisitor visitor now after (λ one next. StampVisit one now visited old progress next new) → IsInOrder after
  stamped_in_order visited progress did =
      taken tell session (with_open after session) (Visits [] (Stamping (suc visited))) progress (did session is opened).turn order

  pub undone_in_order : (visited : ℕ) (cause : Ending) (progress : Progress)
      → ForVisitor visitor now after (λ one next. UndoVisit one now visited cause old progress next new) → IsInOrder after
  undone_in_order visited cause progress did =
      taken tell session (with_open after session) (Visits [] (Undoing (suc visited) cause)) progress (did session is opened).turn order
