-- A visit of an UPDATE or a DELETE that isn't refused is the machine's turn.
use Rattle.std.proofs.Common.{◌≡◌, ℕ, suc, ◌+◌, ◌*◌, List, [], ◌∷◌, ◌++◌, length, Option, None, Some, Ok, Bool, true, false}
use Rattle.std.proofs.Common.{refl, sym, ap, ◌∙◌, subst, cond}
use Rattle.std.specs.Prelude.{slice_set, nat_lt}
use Rattle.hy_stamp.specs.declared.Viewer.{Viewer}
use Rattle.hy_bound.specs.declared.Assign.{Assign}
use Rattle.hy_bound.specs.declared.Record.{Record}
use Rattle.hy_bound.specs.declared.Reply.{Reply}
use Rattle.hy_bound.specs.Condition.{Condition}
use Rattle.hy_value.specs.declared.change.Change.{Change}
use Rattle.hy_plan.specs.Reads.{records_of}
use Rattle.hy_meaning.specs.Statement.{Table}
use Rattle.hy_undo.specs.Places.{Cell}
use Rattle.hy_undo.specs.Chunks.{ChunkData}
use Rattle.hy_undo.specs.Sweeps.{swept, AllWritten}
use Rattle.hy_journal.specs.declared.CoreData.{CoreData}
use Rattle.hy_event.specs.declared.SessionData.{SessionData}
use Rattle.hy_event.specs.declared.Open.{Open}
use Rattle.hy_protocol.specs.declared.Phase.TheVariants as phase
use Rattle.hy_protocol.specs.declared.Progress.{Progress}
use Rattle.hy_event.specs.Sessions.{label_of, viewer_of}
use Rattle.hy_event.specs.Changing.{OnlyPlaces, changes_from}
use Rattle.hy_event.specs.Events.{Part, ChunkPart}
use Rattle.hy_protocol.specs.Turns.{Visits as Visits_here}
use Rattle.hy_event.specs.Turns.{Takes, after_answer as answered_by, answer_turn}
use Rattle.hy_event.specs.Writing.{write_turn as write_turn_here, told_by as told_here}
use Rattle.hy_machine.specs.declared.Setting.{Setting}
use Rattle.hy_machine.specs.States.{State, Open as MachineOpen}
use Rattle.hy_protocol.specs.Turns.{Visits, Answers}
use Rattle.hy_protocol.specs.Statements.{told_by}
use Rattle.hy_machine.specs.Turns.{write_turn, answers}
use Rattle.hy_machine.specs.Writes.{Write}
use Rattle.hy_machine.specs.Tables.{Tables}
use Rattle.hy_machine.specs.Sessions.{session_at, view, txn_at}
use Rattle.hy_protocol.specs.Statements.{kind_of}
use Rattle.hy_machine.specs.Steps.{after_answer}
use Rattle.hy_refinement.specs.Sessions.{NotesShow, GatheredBy, OpenShows, statement_at, SessionIs}
use Rattle.hy_refinement.specs.Gathered.{gathered_first}
use Rattle.hy_refinement.specs.Parts.{ChunkIs}
use Rattle.hy_refinement.specs.Shows.{Shows}
use Rattle.hy_refinement.specs.Taken.{AtChunk, AtStatement, IsTaken, chunk_number}
use Rattle.hy_refinement.specs.Frames.{gone_on, sessions_on, WentOn, ChunkShows}
use Rattle.hy_refinement.specs.Visits.{statement_by}
use Rattle.hy_refinement.proofs.RivalTops.{open_shown}
use Rattle.hy_refinement.proofs.WritesOwn.{writes_from}
use Rattle.hy_refinement.proofs.WritesSweep.{swept_long, same_count}
use Rattle.hy_refinement.proofs.WritesNotes.{noting, writing}
use Rattle.hy_refinement.proofs.WritesChunk.{AtWork, WritesOn, AreQuiet, swept_quiet}
use Rattle.hy_refinement.proofs.WritesShown.{Laws, written_notes, written_shown, visit_taken}

-- ---- what is gathered

-- a write gathers nothing
gathered_by_write : (setting : Setting) (tables others : Tables) (visited more : ℕ) (gathered : List Table) (table : ℕ) (sets : Option (List Assign))
    (pred : Condition)
    → GatheredBy setting tables visited gathered (Some (statement_by table sets pred))
    → GatheredBy setting others more gathered (Some (statement_by table sets pred))
gathered_by_write setting tables others visited more gathered table None pred e = e
gathered_by_write setting tables others visited more gathered table (Some sets) pred e = e

same_told : (sets : Option (List Assign)) (count other : ℕ) → count ≡ other → told_here sets count ≡ told_by (kind_of sets) other
same_told None count other e = ap (told_here None) e
same_told (Some sets) count other e = ap (told_here (Some sets)) e

module _ (laws : Laws) (setting : Setting) (state : State) (parts : List Part) (sessions : List SessionData) (number : ℕ) (session : SessionData)
    (now : Open) (current : MachineOpen) (table chunk : ℕ) (old : ChunkData) (visited count : ℕ) (sets : Option (List Assign)) (pred : Condition)
    (at : AtChunk setting state parts sessions number session now current table chunk old)
    (stands_at : AtStatement setting state number now visited count (Some (statement_by table sets pred)))
    (work : AtWork setting state at.at_open.shown.shows.core sessions number session now current table chunk)
    (between new : ChunkData) (cells : List (Option Cell)) (chunk_is : ChunkIs setting table chunk between)
    (chunk_shows : ChunkShows setting state at.at_open.shown.shows.core sessions table chunk between)
    (ok : swept sets pred (viewer_of session now) (chunk * setting.rows) between.places ≡ Ok cells)
    (only : OnlyPlaces (AllWritten (viewer_of session now) (label_of session) cells) between new) where
  abbrev core : CoreData
  core = at.at_open.shown.shows.core

  abbrev viewer : Viewer
  viewer = viewer_of session now

  abbrev first : ℕ
  first = chunk * setting.rows

  shows_open : OpenShows setting state core number now current
  shows_open = open_shown setting state core sessions number session now current at.at_open.shown.shows.sessions_show work.is_open

  session_is : SessionIs setting number session
  session_is = (at.at_open.shown.shows.sessions_show.each number session work.is_open.found).session_is

  long : length cells ≡ length between.places
  long = swept_long sets pred viewer first between.places cells ok

  quiet : AreQuiet setting state core sessions number session now current table chunk work cells between.places
  quiet = swept_quiet setting state core sessions number session now current table chunk work sets pred cells between.places chunk_shows ok

  abbrev changes : List Change
  changes = changes_from table first viewer cells between.places

  abbrev writes : List Write
  writes = writes_from table first cells

  counted : length changes ≡ length writes
  counted = same_count table first viewer cells between.places long

  notes : NotesShow setting state (noting now changes) (writing current writes)
  notes = written_notes laws setting state parts sessions number session now current table chunk old at work between new cells chunk_is chunk_shows long quiet
      only

  -- nothing is gathered
  gathered : (tables : Tables) (visits : ℕ) → GatheredBy setting tables visits now.gathered
      (statement_at (txn_at setting number (session_at state number)) (length now.replies))
  gathered tables visits =
      subst (GatheredBy setting tables visits now.gathered) (sym stands_at.statement_is)
      (gathered_by_write setting (view setting state current.begun) tables visited visits now.gathered table sets pred
      (subst (GatheredBy setting (view setting state current.begun) visited now.gathered) stands_at.statement_is
      (shows_open.gathered_shows visited count stands_at.phase_is)))

  shown_on : (then : Open) (later : MachineOpen) → WritesOn setting now then current later table chunk cells → WentOn setting state core number then later
      → Shows setting (gone_on state number later) (slice_set parts (chunk_number setting table chunk) (ChunkPart new))
      (sessions_on sessions number session then)
  shown_on then later =
      written_shown laws setting state parts sessions number session now current table chunk old at work between new cells chunk_is chunk_shows long quiet
      only then later

  -- the last one, which answers
  abbrev reply : Reply
  reply = told_here sets (count + length changes)

  abbrev records : List Record
  records = records_of session.shapes (suc (length now.replies)) (statement_by table sets pred) []

  abbrev then_answered : Open
  then_answered = answered_by changes reply None records now

  abbrev later_answered : MachineOpen
  later_answered = after_answer writes reply None records current

  went_answered : WentOn setting state core number then_answered later_answered
  went_answered = record {
    open_shows = record {
      prefix = shows_open.open_shows.prefix;
      replies = ap (λ (replies : List Reply). replies ++ reply ∷ []) shows_open.open_shows.replies;
      records = ap (λ (all : List Record). all ++ records) shows_open.open_shows.records;
      took = ap (λ (took : List (Option ℕ)). took ++ None ∷ []) shows_open.open_shows.took;
      phase = refl;
    };
    notes_show = λ free. record { all = notes.all; saved = notes.saved };
    gathered_shows = λ visits counts e.
        let none : 0 ≡ visits = cc in
        subst (λ (n : ℕ). GatheredBy setting (view setting state later_answered.begun) n [] (statement_at (txn_at setting number (session_at state number))
        (length then_answered.replies))) none
        (gathered_first setting (view setting state later_answered.begun) (statement_at (txn_at setting number (session_at state number))
        (length then_answered.replies)));
    stamping = λ visits e. absurd cc;
  }

  answer_taken : (progress : Progress) (after : SessionData)
      → Takes session (answer_turn session now (statement_by table sets pred) [] changes reply None) progress after
      → IsTaken setting state parts sessions number
      (answers setting current.begun (statement_by table sets pred) [] writes (told_by (kind_of sets) (count + length writes)) None)
      (chunk_number setting table chunk) progress after (ChunkPart new)
  answer_taken progress after takes =
      let told : reply ≡ told_by (kind_of sets) (count + length writes) =
      same_told sets (count + length changes) (count + length writes) (ap (λ (n : ℕ). count + n) counted) in
      let read : records ≡ records_of setting.shapes (suc (length current.begun.replies)) (statement_by table sets pred) [] =
      ap (λ shapes. records_of shapes (suc (length now.replies)) (statement_by table sets pred) []) session_is.shapes
      ∙ ap (λ (replies : List Reply). records_of setting.shapes (suc (length replies)) (statement_by table sets pred) []) shows_open.open_shows.replies in
      subst (λ (r : Reply). IsTaken setting state parts sessions number
      (Answers writes r None (records_of setting.shapes (suc (length current.begun.replies)) (statement_by table sets pred) []))
      (chunk_number setting table chunk) progress after (ChunkPart new)) told
      (subst (λ (r : List Record). IsTaken setting state parts sessions number (Answers writes reply None r) (chunk_number setting table chunk)
      progress after (ChunkPart new)) read
      (laws.taken.answers setting state parts sessions number session now current changes reply None records writes (chunk_number setting table chunk)
      progress after (ChunkPart new) work.is_open takes
      (shown_on then_answered later_answered (record {
        keeps = record { start = refl; prefix = refl; cover = refl; prefix_there = refl; low_there = refl };
        own = refl;
        working = refl;
      }) went_answered)))

  pub writes_taken : (progress : Progress) (after : SessionData)
      → Takes session (write_turn_here session now visited count (statement_by table sets pred) table sets (Ok changes)) progress after
      → IsTaken setting state parts sessions number
      (write_turn setting current.begun visited count (statement_by table sets pred) (kind_of sets) (Ok writes)) (chunk_number setting table chunk)
      progress after (ChunkPart new)
  writes_taken progress after takes =
      by_more (nat_lt (suc visited) setting.chunks)
      (subst (λ (n : ℕ). Takes session (cond (nat_lt (suc visited) n) (Visits_here changes (phase.Working (suc visited) (count + length changes)))
      (answer_turn session now (statement_by table sets pred) [] changes reply None)) progress after) session_is.chunks takes)
    where
      by_more : (more : Bool)
          → Takes session (cond more (Visits_here changes (phase.Working (suc visited) (count + length changes)))
          (answer_turn session now (statement_by table sets pred) [] changes reply None)) progress after
          → IsTaken setting state parts sessions number
          (cond more (Visits writes (phase.Working (suc visited) (count + length writes)))
          (answers setting current.begun (statement_by table sets pred) [] writes (told_by (kind_of sets) (count + length writes)) None))
          (chunk_number setting table chunk) progress after (ChunkPart new)
      by_more true takes =
          visit_taken laws setting state parts sessions number session now current table chunk old at work between new cells chunk_is chunk_shows long quiet
          only (suc visited) (count + length changes) (count + length writes) progress after (ap (λ (n : ℕ). count + n) counted) gathered takes
      by_more false takes = answer_taken progress after takes
