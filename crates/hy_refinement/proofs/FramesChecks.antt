-- A visit of an INSERT that looks for its key is the machine's.
use Rattle.std.proofs.Common.{◌≡◌, ℕ, suc, List, [], ◌∷◌, length, map, Option, None, Some, Bool, true, false, cond, refl, sym, ap, ◌∙◌, subst}
use Rattle.std.specs.Prelude.{◌||◌}
use Rattle.std.specs.List.{list_any}
use Rattle.hy_value.specs.declared.Value.{Value}
use Rattle.hy_bound.specs.declared.Bound.{Bound}
use Rattle.hy_bound.specs.declared.Bound.TheVariants.{Insert}
use Rattle.hy_bound.specs.declared.Reply.TheVariants as reply
use Rattle.hy_bound.specs.Predicate.{column_of, truth_at}
use Rattle.hy_plan.specs.Reads.{key_is_value, records_of}
use Rattle.hy_undo.specs.Places.{Cell}
use Rattle.hy_undo.specs.Chunks.{ChunkData}
use Rattle.hy_event.specs.declared.SessionData.{SessionData}
use Rattle.hy_event.specs.declared.Open.{Open}
use Rattle.hy_protocol.specs.declared.Progress.{Progress}
use Rattle.hy_event.specs.Events.{Part, ChunkPart}
use Rattle.hy_event.specs.Sessions.{viewer_of}
use Rattle.hy_protocol.specs.Turns.{goes_on}
use Rattle.hy_event.specs.Turns.{Takes, answer_turn}
use Rattle.hy_event.specs.Inserting.{sees_key, CheckVisit}
use Rattle.hy_machine.specs.declared.Setting.{Setting}
use Rattle.hy_machine.specs.States.{State, Open as MachineOpen}
use Rattle.hy_machine.specs.Positions.{item_at}
use Rattle.hy_machine.specs.Tables.{positions_in}
use Rattle.hy_machine.specs.Sessions.{session_at, txn_at, view}
use Rattle.hy_protocol.specs.Turns.{goes_on as goes_on_there}
use Rattle.hy_machine.specs.Turns.{answers as answers_there}
use Rattle.hy_machine.specs.Visits.{has_key_in, sees_key as sees_key_there}
use Rattle.hy_refinement.specs.Sessions.{OpenShows, GatheredBy, statement_at}
use Rattle.hy_refinement.specs.Taken.{AtChunk, AtStatement, IsTaken, chunk_number}
use Rattle.hy_refinement.specs.Frames.{OwnStepsShow}
use Rattle.hy_refinement.specs.Visits.{ChecksAreTaken}
use Rattle.hy_refinement.proofs.FramesSeen.{was_shown, seen_cells}
use Rattle.hy_refinement.proofs.FramesReads.{same_records, on_now, out_now, read_moves, read_answers}

-- ---- the key

same_test : (row : List Value) (key : ℕ) (cell : Cell) → truth_at (key_is_value key (column_of row key)) cell ≡ has_key_in row (Some key) cell
same_test row key None = refl
same_test row key (Some other) = refl

any_same : (row : List Value) (key : ℕ) (cell : ℕ → Cell) (positions : List ℕ)
    → list_any (truth_at (key_is_value key (column_of row key))) (map cell positions) ≡ list_any (λ (pos : ℕ). has_key_in row (Some key) (cell pos)) positions
any_same row key cell [] = refl
any_same row key cell (pos ∷ positions) =
    ap (λ (b : Bool). b || list_any (truth_at (key_is_value key (column_of row key))) (map cell positions)) (same_test row key (cell pos))
    ∙ ap (λ (b : Bool). has_key_in row (Some key) (cell pos) || b) (any_same row key cell positions)

-- ---- the visit

module _ (own : OwnStepsShow) (setting : Setting) (state : State) (parts : List Part) (sessions : List SessionData) (number : ℕ) (session : SessionData)
    (now : Open) (current : MachineOpen) (table chunk : ℕ) (old : ChunkData) (visited count : ℕ) (row : List Value) (key : ℕ)
    (progress : Progress) (after : SessionData) (new : ChunkData)
    (at : AtChunk setting state parts sessions number session now current table chunk old)
    (stands : AtStatement setting state number now visited count (Some (Insert table row))) (chunk_is : chunk ≡ visited)
    (visit : CheckVisit session now visited (Insert table row) row (Some key) old progress after new) where
  abbrev found_here : Bool
  found_here = sees_key (viewer_of session now) row (Some key) old.places

  abbrev found_there : Bool
  found_there = sees_key_there setting state current.begun table row (Some key) visited

  was : OpenShows setting state at.at_open.shown.shows.core number now current
  was = was_shown setting state parts sessions number session now current table chunk old at visited count stands.phase_is

  found_same : found_here ≡ found_there
  found_same =
      ap (list_any (truth_at (key_is_value key (column_of row key))))
      (seen_cells setting state parts sessions number session now current table chunk old at visited count stands.phase_is)
      ∙ (any_same row key (item_at (view setting state current.begun) table) (positions_in setting chunk)
      ∙ ap (λ (n : ℕ). sees_key_there setting state current.begun table row (Some key) n) chunk_is)

  nothing_gathered : GatheredBy setting (view setting state current.begun) (suc visited) now.gathered
      (statement_at (txn_at setting number (session_at state number)) (length now.replies))
  nothing_gathered =
      subst (λ (statement : Option Bound). GatheredBy setting (view setting state current.begun) (suc visited) now.gathered statement) (sym stands.statement_is)
      (subst (λ (statement : Option Bound). GatheredBy setting (view setting state current.begun) visited now.gathered statement) stands.statement_is
      (was.gathered_shows visited count stands.phase_is))

  taken : IsTaken setting state parts sessions number
      (cond found_there (answers_there setting current.begun (Insert table row) [] [] reply.Duplicate None) (goes_on_there visited))
      (chunk_number setting table chunk) progress after (ChunkPart new)
  taken =
      by_found found_there
      (subst (λ (b : Bool). Takes session (cond b (answer_turn session now (Insert table row) [] [] reply.Duplicate None) (goes_on visited)) progress after)
      found_same visit.turn)
    where
      by_found : (found : Bool)
          → Takes session (cond found (answer_turn session now (Insert table row) [] [] reply.Duplicate None) (goes_on visited)) progress after
          → IsTaken setting state parts sessions number
          (cond found (answers_there setting current.begun (Insert table row) [] [] reply.Duplicate None) (goes_on_there visited))
          (chunk_number setting table chunk) progress after (ChunkPart new)
      by_found true takes =
          read_answers own setting state parts sessions number session now current table chunk old at visited count stands.phase_is progress after new
          visit.chunk
          reply.Duplicate (records_of session.shapes (suc (length now.replies)) (Insert table row) [])
          (records_of setting.shapes (suc (length current.begun.replies)) (Insert table row) [])
          (same_records setting session now current (Insert table row) []
          (at.at_open.shown.shows.sessions_show.each number session at.at_open.is_open.found).session_is.shapes was.open_shows.replies)
          (takes ∙ out_now session now (Insert table row) [] reply.Duplicate at.at_open.is_open.open_here)
      by_found false takes =
          read_moves own setting state parts sessions number session now current table chunk old at visited count stands.phase_is progress after new
          visit.chunk now.gathered nothing_gathered (takes ∙ on_now session now visited at.at_open.is_open.open_here)

pub checks : OwnStepsShow → ChecksAreTaken
checks own setting state parts sessions number session now current table chunk old visited count row key progress after new at stands chunk_is visit =
    taken own setting state parts sessions number session now current table chunk old visited count row key progress after new at stands chunk_is visit
