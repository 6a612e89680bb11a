-- A visit of an UPDATE or a DELETE is the machine's turn.
use Rattle.std.proofs.Common.{◌≡◌, ℕ, ◌+◌, ◌*◌, List, [], Option, Some, Result, Ok, Err}
use Rattle.std.proofs.Common.{sym, ap, ◌∙◌, subst}
use Rattle.std.specs.Prelude.{slice_get}
use Rattle.hy_stamp.specs.declared.Viewer.{Viewer}
use Rattle.hy_bound.specs.declared.Assign.{Assign}
use Rattle.hy_bound.specs.Condition.{Condition}
use Rattle.hy_undo.specs.declared.refusal.Refusal.{Refusal}
use Rattle.hy_bound.specs.declared.Ending.{Ending}
use Rattle.hy_undo.specs.Places.{Cell}
use Rattle.hy_undo.specs.Chunks.{ChunkData}
use Rattle.hy_undo.specs.Sweeps.{swept}
use Rattle.hy_journal.specs.declared.CoreData.{CoreData}
use Rattle.hy_event.specs.declared.SessionData.{SessionData}
use Rattle.hy_event.specs.declared.Open.{Open}
use Rattle.hy_protocol.specs.declared.Phase.TheVariants as phase
use Rattle.hy_protocol.specs.declared.Progress.{Progress}
use Rattle.hy_event.specs.Sessions.{label_of, viewer_of}
use Rattle.hy_event.specs.Changing.{changes_from}
use Rattle.hy_event.specs.Events.{Part, ChunkPart}
use Rattle.hy_protocol.specs.Turns.{refused as refuses}
use Rattle.hy_event.specs.Turns.{Takes}
use Rattle.hy_event.specs.Writing.{WriteVisit, Becomes, ending_by, changes_by, cells_by, write_turn as write_turn_here}
use Rattle.hy_machine.specs.declared.Setting.{Setting}
use Rattle.hy_machine.specs.States.{State, Open as MachineOpen}
use Rattle.hy_protocol.specs.Turns.{Visits}
use Rattle.hy_machine.specs.Turns.{write_turn}
use Rattle.hy_machine.specs.Writes.{Write}
use Rattle.hy_protocol.specs.Statements.{kind_of}
use Rattle.hy_machine.specs.Visits.{swept as swept_there}
use Rattle.hy_refinement.specs.Transactions.{IsOpen}
use Rattle.hy_refinement.specs.Sessions.{OpenShows}
use Rattle.hy_refinement.specs.Parts.{ChunkIs}
use Rattle.hy_refinement.specs.Taken.{AtChunk, AtStatement, IsTaken, chunk_number}
use Rattle.hy_refinement.specs.Frames.{StandsAsBefore, ChunkShows}
use Rattle.hy_refinement.specs.Visits.{statement_by}
use Rattle.hy_refinement.proofs.RivalTops.{open_shown}
use Rattle.hy_refinement.proofs.FramesStill.{stands_still}
use Rattle.hy_refinement.proofs.FramesRefusals.{refused_here, refused_there, refused_keeps, refused_goes, refused_still}
use Rattle.hy_refinement.proofs.PlacesWork.{at_work_in}
use Rattle.hy_refinement.proofs.WritesSweep.{as_sweep}
use Rattle.hy_refinement.proofs.WritesChunk.{AtWork, same_swept}
use Rattle.hy_refinement.proofs.WritesShown.{Laws}
use Rattle.hy_refinement.proofs.WritesGoes.{writes_taken}

module _ (laws : Laws) (setting : Setting) (state : State) (parts : List Part) (sessions : List SessionData) (number : ℕ) (session : SessionData)
    (now : Open) (current : MachineOpen) (table chunk : ℕ) (old : ChunkData) (visited count : ℕ) (sets : Option (List Assign)) (pred : Condition)
    (at : AtChunk setting state parts sessions number session now current table chunk old)
    (stands_at : AtStatement setting state number now visited count (Some (statement_by table sets pred))) where
  abbrev core : CoreData
  core = at.at_open.shown.shows.core

  abbrev viewer : Viewer
  viewer = viewer_of session now

  abbrev first : ℕ
  first = chunk * setting.rows

  is : IsOpen state sessions number session now current
  is = at.at_open.is_open

  shows_open : OpenShows setting state core number now current
  shows_open = open_shown setting state core sessions number session now current at.at_open.shown.shows.sessions_show is

  work : AtWork setting state core sessions number session now current table chunk
  work = at_work_in laws.one_id setting state parts sessions number session now current table chunk old visited count at stands_at.phase_is

  -- ---- it is refused

  -- it stands as before, and will be undone
  stands_refused : (cause : Ending) (other another pos : ℕ)
      → StandsAsBefore setting state number other another pos current (refused_there cause current)
  stands_refused cause other another pos =
      stands_still setting state number other another pos current (refused_there cause current) is.open_there
      (refused_still setting state core number cause now current visited count shows_open stands_at.phase_is)

  refusal_taken : (between new : ChunkData) (progress : Progress) (after : SessionData) (cause : Ending)
      → ChunkIs setting table chunk between → ChunkShows setting state core sessions table chunk between
      → new ≡ between → Takes session (refuses cause) progress after
      → IsTaken setting state parts sessions number (Visits [] (phase.Undoing 0 cause)) (chunk_number setting table chunk) progress after (ChunkPart new)
  refusal_taken between new progress after cause chunk_is chunk_shows same takes =
      laws.taken.visits setting state parts sessions number session now current [] (phase.Undoing 0 cause)
      [] (phase.Undoing 0 cause) (chunk_number setting table chunk) progress after (ChunkPart new) is takes
      (laws.visits setting state parts sessions number session now (refused_here cause now) current (refused_there cause current) table chunk old new at
      (refused_keeps cause now current) (refused_goes setting state core number cause now current shows_open)
      (λ other another index apart within. stands_refused cause other another (another * setting.rows + index))
      (subst (ChunkIs setting table chunk) (sym same) chunk_is)
      (λ index place e. laws.unmoved setting state core sessions number session now (refused_here cause now) current (refused_there cause current) table chunk
      (first + index) place is (refused_keeps cause now current) (stands_refused cause table chunk (first + index))
      (chunk_shows index place (ap (λ (c : ChunkData). slice_get c.places index) (sym same) ∙ e))))

  -- ---- the visit

  by_result : (between new : ChunkData) (progress : Progress) (after : SessionData) → ChunkIs setting table chunk between
      → ChunkShows setting state core sessions table chunk between
      → (result : Result (List (Option Cell)) Refusal) → swept sets pred viewer first between.places ≡ result
      → Becomes viewer (label_of session) result between new
      → Takes session
      (write_turn_here session now visited count (statement_by table sets pred) table sets (changes_by table viewer between result)) progress after
      → IsTaken setting state parts sessions number
      (write_turn setting current.begun visited count (statement_by table sets pred) (kind_of sets) (as_sweep table first result))
      (chunk_number setting table chunk) progress after (ChunkPart new)
  by_result between new progress after chunk_is chunk_shows (Err refusal) e becomes takes =
      refusal_taken between new progress after (ending_by table refusal) chunk_is chunk_shows becomes takes
  by_result between new progress after chunk_is chunk_shows (Ok cells) e becomes takes =
      writes_taken laws setting state parts sessions number session now current table chunk old visited count sets pred at stands_at work between new cells
      chunk_is chunk_shows e becomes progress after
      (subst (λ (n : ℕ). Takes session (write_turn_here session now visited count (statement_by table sets pred) table sets
      (Ok (changes_from table n viewer cells between.places))) progress after) chunk_is.first takes)

  pub visit_is_taken : (progress : Progress) (after : SessionData) (new : ChunkData) → chunk ≡ visited
      → WriteVisit session now visited count (statement_by table sets pred) table sets pred old progress after new
      → IsTaken setting state parts sessions number
      (write_turn setting current.begun visited count (statement_by table sets pred) (kind_of sets)
      (swept_there setting state number current.begun (kind_of sets) pred table visited))
      (chunk_number setting table chunk) progress after (ChunkPart new)
  visit_is_taken progress after new same visit =
      let was = laws.visited setting state parts sessions number session now current table chunk old at in
      let pruned = laws.pruned setting state core sessions session now.cover table chunk old visit.between at.at_open.shown.below_ids
      at.at_open.shown.shows.core_shows shows_open.cover_holds.held was.0 was.1 visit.prunes in
      let cells = cells_by sets pred viewer visit.between in
      let swept_is : swept sets pred viewer first visit.between.places ≡ cells_by sets pred viewer visit.between =
      ap (λ (n : ℕ). swept sets pred viewer n visit.between.places) (sym pruned.0.first) in
      subst (λ (n : ℕ). IsTaken setting state parts sessions number
      (write_turn setting current.begun visited count (statement_by table sets pred) (kind_of sets)
      (swept_there setting state number current.begun (kind_of sets) pred table n))
      (chunk_number setting table chunk) progress after (ChunkPart new)) same
      (subst (λ (r : Result (List Write) Ending). IsTaken setting state parts sessions number
      (write_turn setting current.begun visited count (statement_by table sets pred) (kind_of sets) r) (chunk_number setting table chunk)
      progress after (ChunkPart new))
      (sym (same_swept setting state core sessions number session now current table chunk work laws.rivals sets pred visit.between pruned.0 pruned.1
      ∙ ap (as_sweep table first) swept_is))
      (by_result visit.between new progress after pruned.0 pruned.1 (cells_by sets pred viewer visit.between) swept_is visit.chunk visit.turn))
