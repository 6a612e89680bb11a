-- What is shown after a visit in which cells are written, and that a visit that isn't the last one is the machine's turn.
use Rattle.std.proofs.Common.{◌≡◌, ℕ, ◌+◌, ◌*◌, List, length, Option}
use Rattle.std.proofs.Common.{refl, ap, ◌∙◌}
use Rattle.std.specs.Prelude.{slice_set}
use Rattle.hy_stamp.specs.declared.Label.{Label}
use Rattle.hy_stamp.specs.declared.Viewer.{Viewer}
use Rattle.hy_stamp.specs.Times.{IsLabel, id_of}
use Rattle.hy_value.specs.declared.change.Change.{Change}
use Rattle.hy_undo.specs.Places.{Cell}
use Rattle.hy_undo.specs.Chunks.{ChunkData}
use Rattle.hy_undo.specs.Sweeps.{AllWritten}
use Rattle.hy_journal.specs.declared.CoreData.{CoreData}
use Rattle.hy_event.specs.declared.SessionData.{SessionData}
use Rattle.hy_event.specs.declared.Open.{Open}
use Rattle.hy_protocol.specs.declared.Phase.TheVariants as phase
use Rattle.hy_protocol.specs.declared.Progress.{Progress}
use Rattle.hy_event.specs.Sessions.{label_of, viewer_of}
use Rattle.hy_event.specs.Changing.{OnlyPlaces, changes_from}
use Rattle.hy_event.specs.Events.{Part, ChunkPart}
use Rattle.hy_protocol.specs.Turns.{Visits as Visits_here}
use Rattle.hy_event.specs.Turns.{Takes, after_visit as visited_by}
use Rattle.hy_machine.specs.declared.Setting.{Setting}
use Rattle.hy_machine.specs.States.{State, Open as MachineOpen}
use Rattle.hy_protocol.specs.Turns.{Visits}
use Rattle.hy_machine.specs.Writes.{Write}
use Rattle.hy_machine.specs.Tables.{Tables}
use Rattle.hy_machine.specs.Sessions.{session_at, view, txn_at}
use Rattle.hy_machine.specs.Steps.{after_visit}
use Rattle.hy_refinement.specs.Sessions.{NotesShow, GatheredBy, OpenShows, statement_at, SessionIs}
use Rattle.hy_refinement.specs.Parts.{ChunkIs}
use Rattle.hy_refinement.specs.Rivals.{RivalsAreOpponents}
use Rattle.hy_refinement.specs.Shows.{Shows}
use Rattle.hy_refinement.specs.Taken.{AtChunk, IsTaken, chunk_number}
use Rattle.hy_refinement.specs.Frames.{gone_on, sessions_on, WentOn, ChunkShows}
use Rattle.hy_refinement.specs.Frames.{UnmovedPlacesShow, ChunkVisitsShow, PrunedChunksShow, VisitedChunksShow, GoingOnIsTaken, NotesFollowWrites}
use Rattle.hy_refinement.proofs.RivalTops.{open_shown}
use Rattle.hy_refinement.proofs.FramesTurns.{chunk_still}
use Rattle.hy_refinement.proofs.WritesOwn.{writes_from}
use Rattle.hy_refinement.proofs.WritesSweep.{same_count, written_long}
use Rattle.hy_refinement.proofs.WritesNotes.{notes_written, noting, writing}
use Rattle.hy_refinement.proofs.WritesChunk.{AtWork, WritesOn, AreQuiet, chunk_room, fits, trail_fits, sees_view, stands_elsewhere, chunk_written}

-- the laws by which a visit is the machine's
pub record Laws : Type 0 where
  pub one_id : (a b : Label) → IsLabel a → IsLabel b → id_of a ≡ id_of b → a ≡ b
  pub visited : VisitedChunksShow
  pub pruned : PrunedChunksShow
  pub rivals : RivalsAreOpponents
  pub follow : NotesFollowWrites
  pub unmoved : UnmovedPlacesShow
  pub visits : ChunkVisitsShow
  pub taken : GoingOnIsTaken

module _ (laws : Laws) (setting : Setting) (state : State) (parts : List Part) (sessions : List SessionData) (number : ℕ) (session : SessionData)
    (now : Open) (current : MachineOpen) (table chunk : ℕ) (old : ChunkData)
    (at : AtChunk setting state parts sessions number session now current table chunk old)
    (work : AtWork setting state at.at_open.shown.shows.core sessions number session now current table chunk)
    (between new : ChunkData) (cells : List (Option Cell)) (chunk_is : ChunkIs setting table chunk between)
    (chunk_shows : ChunkShows setting state at.at_open.shown.shows.core sessions table chunk between)
    (long : length cells ≡ length between.places)
    (quiet : AreQuiet setting state at.at_open.shown.shows.core sessions number session now current table chunk work cells between.places)
    (only : OnlyPlaces (AllWritten (viewer_of session now) (label_of session) cells) between new) where
  abbrev core : CoreData
  core = at.at_open.shown.shows.core

  abbrev viewer : Viewer
  viewer = viewer_of session now

  abbrev first : ℕ
  first = chunk * setting.rows

  shows_open : OpenShows setting state core number now current
  shows_open = open_shown setting state core sessions number session now current at.at_open.shown.shows.sessions_show work.is_open

  session_is : SessionIs setting number session
  session_is = (at.at_open.shown.shows.sessions_show.each number session work.is_open.found).session_is

  abbrev pub changes : List Change
  changes = changes_from table first viewer cells between.places

  abbrev pub writes : List Write
  writes = writes_from table first cells

  pub counted : length changes ≡ length writes
  counted = same_count table first viewer cells between.places long

  pub written_notes : NotesShow setting state (noting now changes) (writing current writes)
  written_notes = notes_written laws.follow setting state table viewer work.table_below first cells between.places now current
      (fits setting state core sessions number session now current table chunk work)
      (trail_fits setting state core sessions number session now current table chunk work)
      (chunk_room chunk setting.chunks setting.rows (length cells) work.chunk_below (long ∙ chunk_is.places)) long (shows_open.notes_show work.unmarked)
      (λ i place e. sees_view setting state core sessions number session now current table chunk work (first + i) place (chunk_shows i place e))

  -- all is shown where it went on so
  pub written_shown : (then : Open) (later : MachineOpen) → WritesOn setting now then current later table chunk cells → WentOn setting state core number then later
      → Shows setting (gone_on state number later) (slice_set parts (chunk_number setting table chunk) (ChunkPart new))
      (sessions_on sessions number session then)
  written_shown then later on went =
      laws.visits setting state parts sessions number session now then current later table chunk old new at on.keeps went
      (stands_elsewhere setting state core sessions number session now current table chunk work then later cells (long ∙ chunk_is.places) on)
      (chunk_still setting table chunk (AllWritten viewer (label_of session) cells) between new chunk_is only
      (written_long viewer (label_of session) cells between.places new.places only.places))
      (chunk_written setting state core sessions number session now current table chunk work then later cells (long ∙ chunk_is.places) on laws.unmoved
      between.places new.places chunk_shows quiet only.places)

  -- a visit that isn't the last one: what is gathered stays
  visit_goes : (visited count other : ℕ) → count ≡ other
      → ((tables : Tables) (visits : ℕ) → GatheredBy setting tables visits now.gathered
      (statement_at (txn_at setting number (session_at state number)) (length now.replies)))
      → WentOn setting state core number (visited_by changes (phase.Working visited count) now) (after_visit writes (phase.Working visited other) current)
  visit_goes visited count other same gathered = record {
    open_shows = record {
      prefix = shows_open.open_shows.prefix;
      replies = shows_open.open_shows.replies;
      records = shows_open.open_shows.records;
      took = shows_open.open_shows.took;
      phase = ap (λ (n : ℕ). phase.Working visited n) same;
    };
    notes_show = λ free. record { all = written_notes.all; saved = written_notes.saved };
    gathered_shows = λ visits counts e.
        gathered (view setting state (after_visit writes (phase.Working visited other) current).begun) visits;
    stamping = λ visits e. absurd cc;
  }

  pub visit_taken : (visited count other : ℕ) (progress : Progress) (after : SessionData) → count ≡ other
      → ((tables : Tables) (visits : ℕ) → GatheredBy setting tables visits now.gathered
      (statement_at (txn_at setting number (session_at state number)) (length now.replies)))
      → Takes session (Visits_here changes (phase.Working visited count)) progress after
      → IsTaken setting state parts sessions number (Visits writes (phase.Working visited other)) (chunk_number setting table chunk)
      progress after (ChunkPart new)
  visit_taken visited count other progress after same gathered takes =
      laws.taken.visits setting state parts sessions number session now current changes (phase.Working visited count)
      writes (phase.Working visited other) (chunk_number setting table chunk) progress after (ChunkPart new) work.is_open takes
      (written_shown (visited_by changes (phase.Working visited count) now) (after_visit writes (phase.Working visited other) current) (record {
        keeps = record { start = refl; prefix = refl; cover = refl; prefix_there = refl; low_there = refl };
        own = refl;
        working = refl;
      }) (visit_goes visited count other same gathered))
