-- Where a transaction has ended, all is shown, if it left nothing behind at any position.
use Rattle.std.proofs.Common.{◌≡◌, ◌≢◌, ℕ, ◌+◌, ◌*◌, List, length, Some, sym, ◌∙◌}
use Rattle.std.specs.Prelude.{slice_get, slice_set}
use Rattle.std.proofs.lemmas.List.{length-set}
use Rattle.hy_bound.specs.declared.Ending.{Ending}
use Rattle.hy_journal.specs.declared.CoreData.{CoreData}
use Rattle.hy_journal.specs.Core.{core_left}
use Rattle.hy_undo.specs.Places.{Place}
use Rattle.hy_undo.specs.Chunks.{ChunkData}
use Rattle.hy_event.specs.declared.SessionData.{SessionData}
use Rattle.hy_event.specs.declared.Open.{Open}
use Rattle.hy_event.specs.Sessions.{written}
use Rattle.hy_event.specs.Events.{Part, CorePart}
use Rattle.hy_machine.specs.declared.Setting.{Setting}
use Rattle.hy_machine.specs.States.{State, Open as MachineOpen}
use Rattle.hy_machine.specs.Writes.{written as written_there}
use Rattle.hy_refinement.specs.Parts.{IsChunkPart, PartsAre}
use Rattle.hy_refinement.specs.Rivals.{ShownAt}
use Rattle.hy_refinement.specs.Shows.{Shows}
use Rattle.hy_refinement.specs.Taken.{AtOpen, core_number}
use Rattle.hy_refinement.proofs.FramesLists.{got_set, got_other}
use Rattle.hy_refinement.proofs.FramesParts.{core_behind}
use Rattle.hy_refinement.proofs.EndedOpens.{ended, sessions_ended}
use Rattle.hy_refinement.proofs.EndedPlaces.{LeavesNothing, ended_shows}
use Rattle.hy_refinement.proofs.EndedCores.{core_ended, sessions_ended_show}

-- ---- parts

-- a chunk is a part still where the core changed
module _ (setting : Setting) (parts : List Part) (core new : CoreData) where
  pub chunk_before : (table chunk : ℕ) (part : ChunkData)
      → IsChunkPart setting (slice_set parts (length setting.shapes * setting.chunks) (CorePart new)) table chunk part
      → IsChunkPart setting parts table chunk part
  chunk_before table chunk part is = record {
    table_below = is.table_below;
    chunk_below = is.chunk_below;
    found = sym (got_other parts (length setting.shapes * setting.chunks) (table * setting.chunks + chunk) (CorePart new)
        (λ e. core_behind setting.chunks (length setting.shapes) table chunk is.table_below is.chunk_below (sym e))) ∙ is.found;
  }

  pub parts_after : PartsAre setting parts core → PartsAre setting (slice_set parts (length setting.shapes * setting.chunks) (CorePart new)) new
  parts_after are = record {
    count = length-set parts (length setting.shapes * setting.chunks) (CorePart new) ∙ are.count;
    chunks = λ table chunk table_below chunk_below.
        let was = are.chunks table chunk table_below chunk_below in record {
          part = was.part;
          is_part = record {
            table_below = table_below;
            chunk_below = chunk_below;
            found = got_other parts (length setting.shapes * setting.chunks) (table * setting.chunks + chunk) (CorePart new)
                (λ e. core_behind setting.chunks (length setting.shapes) table chunk table_below chunk_below (sym e)) ∙ was.is_part.found;
          };
          chunk_is = was.chunk_is;
        };
    core_last = got_set parts (length setting.shapes * setting.chunks) (CorePart core) (CorePart new) are.core_last;
  }

-- ---- all of it

pub ended_shown : (setting : Setting) (state : State) (parts : List Part) (sessions : List SessionData) (number : ℕ) (session : SessionData)
    (now : Open) (current : MachineOpen) (ending : Ending) (at : AtOpen setting state parts sessions number session now current)
    → ((other : ℕ) → (other ≡ number → ⊥) → state.mark ≢ Some other) → written now ≡ written_there current.begun.own
    → ((table chunk index : ℕ) (part : ChunkData) (place : Place) → IsChunkPart setting parts table chunk part → slice_get part.places index ≡ Some place
    → ShownAt setting state at.shown.shows.core sessions table chunk (chunk * setting.rows + index) place
    → LeavesNothing setting state table chunk (chunk * setting.rows + index) place number session current)
    → Shows setting (ended state number ending) (slice_set parts (core_number setting) (CorePart (core_left at.shown.shows.core now.start)))
    (sessions_ended sessions number session ending)
ended_shown setting state parts sessions number session now current ending at unmarked wrote nothing_left = record {
  core = core_left at.shown.shows.core now.start;
  parts_are = parts_after setting parts at.shown.shows.core (core_left at.shown.shows.core now.start) at.shown.shows.parts_are;
  core_shows = core_ended setting state at.shown.shows.core sessions at.shown.shows.core_shows at.shown.shows.sessions_show number session now current ending
      at.is_open unmarked;
  sessions_show = sessions_ended_show setting state at.shown.shows.core sessions at.shown.shows.core_shows at.shown.shows.sessions_show number session now
      current ending at.is_open unmarked at.shown.kept.fits wrote;
  places_show = λ table chunk index part place of e.
      let was_of = chunk_before setting parts at.shown.shows.core (core_left at.shown.shows.core now.start) table chunk part of in
      let shown : ShownAt setting state at.shown.shows.core sessions table chunk (chunk * setting.rows + index) place = record {
        kept = at.shown.kept;
        below_ids = at.shown.below_ids;
        core_shows = at.shown.shows.core_shows;
        sessions_show = at.shown.shows.sessions_show;
        place_shows = at.shown.shows.places_show table chunk index part place was_of e;
      } in
      ended_shows setting state at.shown.shows.core sessions table chunk (chunk * setting.rows + index) place shown number session now current ending
      at.is_open unmarked (nothing_left table chunk index part place was_of e shown);
}
