-- A visit of a chunk by a session with an open transaction is the machine's turn, by where it stands.
use Rattle.std.proofs.Common.{◌≡◌, ℕ, suc, ◌+◌, ◌-◌, ◌*◌, List, [], length, Option, None, Some, Bool, true, false}
use Rattle.std.proofs.Common.{refl, sym, ap, ◌∙◌, subst, cond}
use Rattle.std.specs.Prelude.{slice_get, nat_lt}
use Rattle.std.proofs.lemmas.Bool.{lt-ltb}
use Rattle.std.proofs.lemmas.Option.{slice_get_within}
use Rattle.hy_bound.specs.declared.Bound.{Bound}
use Rattle.hy_bound.specs.declared.Reply.{Reply}
use Rattle.hy_bound.specs.declared.Txn.{Txn}
use Rattle.hy_undo.specs.Chunks.{ChunkData}
use Rattle.hy_bound.specs.declared.Ending.{Ending}
use Rattle.hy_bound.specs.declared.Ending.TheVariants.{Committed, RolledBack}
use Rattle.hy_event.specs.declared.SessionData.{SessionData}
use Rattle.hy_event.specs.declared.Open.{Open}
use Rattle.hy_event.specs.declared.Need.TheVariants.{Chunk}
use Rattle.hy_protocol.specs.declared.Phase.{Phase}
use Rattle.hy_protocol.specs.declared.Phase.TheVariants as phase
use Rattle.hy_protocol.specs.declared.Progress.{Progress}
use Rattle.hy_event.specs.Needs.{phase_need, working_need, closing_need, written_need}
use Rattle.hy_event.specs.Stamping.{StampVisit}
use Rattle.hy_event.specs.Undoing.{UndoVisit}
use Rattle.hy_event.specs.Events.{Part, ChunkPart, PhaseVisit, WorkingVisit, ClosingVisit}
use Rattle.hy_machine.specs.declared.Setting.{Setting}
use Rattle.hy_machine.specs.States.{State, Open as MachineOpen}
use Rattle.hy_protocol.specs.Turns.{Turn, Ends, Visits, unless_blocked, is_stamping}
use Rattle.hy_machine.specs.Turns.{phase_turn, working_turn, closing_turn, stamp_turn, undo_turn}
use Rattle.hy_machine.specs.Writes.{Write, written_chunks}
use Rattle.hy_machine.specs.Sessions.{blocker, view}
use Rattle.hy_machine.specs.Holding.{undone}
use Rattle.hy_machine.specs.Kept.{PhaseFits}
use Rattle.hy_refinement.specs.Sessions.{statement_at}
use Rattle.hy_refinement.specs.Steps.{ReadsFit}
use Rattle.hy_refinement.specs.Taken.{AtChunk, IsTaken, chunk_number}
use Rattle.hy_refinement.proofs.StepLaws.{StepLaws}
use Rattle.hy_refinement.proofs.StepChunks.{written_below, chunk_left}
use Rattle.hy_refinement.proofs.StepCores.{Opening}
use Rattle.hy_refinement.proofs.StepStatements.{statement_step}
use Rattle.hy_refinement.proofs.NeededParts.{chunk_part}

module _ (laws : StepLaws) (setting : Setting) (state : State) (parts : List Part) (sessions : List SessionData) (number : ℕ) (session : SessionData)
    (now : Open) (current : MachineOpen) (txn : Txn) (is : Opening setting state parts sessions number session now current txn)
    (table chunk : ℕ) (old : ChunkData) (found : slice_get parts (table * setting.chunks + chunk) ≡ Some (ChunkPart old))
    (progress : Progress) (after : SessionData) (new : ChunkData) where
  abbrev TurnIsTaken : Turn Write → Type 0
  TurnIsTaken turn = IsTaken setting state parts sessions number turn (chunk_number setting table chunk) progress after (ChunkPart new)

  abbrev chunks : List (ℕ × ℕ)
  chunks = written_chunks setting current.begun.own

  -- a chunk that was written, as a part
  written_part : (visited : ℕ) → slice_get chunks visited ≡ Some (table, chunk) → AtChunk setting state parts sessions number session now current table chunk old
  written_part visited e = record {
    at_open = is.at_open;
    is_part = chunk_part setting parts is.at_open.shown.shows.core table chunk old is.at_open.shown.shows.parts_are
        (written_below setting current.begun.own visited table chunk e) found;
  }

  is_left : (visited : ℕ) → slice_get chunks visited ≡ Some (table, chunk) → true ≡ nat_lt visited (length chunks)
  is_left visited e = sym (lt-ltb visited (length chunks) (slice_get_within chunks visited (table, chunk) e))

  -- an undo visit, at ROLLBACK or later
  undo_chunk : (visited : ℕ) (cause : Ending) → is_stamping current.phase ≡ false → undone current.phase ≡ visited
      → written_need session now visited ≡ Chunk table chunk → UndoVisit session now visited cause old progress after new
      → TurnIsTaken (undo_turn setting state number current.begun visited cause)
  undo_chunk visited cause working so_far need visit =
      let chosen = chunk_left setting session now current visited table chunk is.written need in
      subst (λ (b : Bool). TurnIsTaken (cond b (Visits [] (phase.Undoing (suc visited) cause)) (unless_blocked (blocker state number) (Ends cause))))
      (is_left visited chosen)
      (laws.undos setting state parts sessions number session now current table chunk old visited cause progress after new (written_part visited chosen)
      working so_far chosen visit)

  stamp_chunk : (visited : ℕ) → now.phase ≡ phase.Stamping visited → written_need session now visited ≡ Chunk table chunk
      → StampVisit session now visited old progress after new → TurnIsTaken (stamp_turn setting state current.begun visited)
  stamp_chunk visited stamps need visit =
      let chosen = chunk_left setting session now current visited table chunk is.written need in
      subst (λ (b : Bool). TurnIsTaken (cond b (Visits [] (phase.Stamping (suc visited))) (Ends (Committed (length state.order - 1)))))
      (is_left visited chosen)
      (laws.stamps setting state parts sessions number session now current table chunk old visited progress after new (written_part visited chosen)
      stamps chosen visit)

  close_chunk : is_stamping current.phase ≡ false → undone current.phase ≡ 0 → (commits : Bool) → closing_need session now commits ≡ Chunk table chunk
      → ClosingVisit session now commits old progress after new → TurnIsTaken (closing_turn setting state number current.begun commits)
  close_chunk working so_far true need visit = absurd visit
  close_chunk working so_far false need visit = undo_chunk 0 RolledBack working so_far need visit

  work_chunk : (visited count : ℕ) → now.phase ≡ phase.Working visited count → current.phase ≡ phase.Working visited count
      → PhaseFits setting (Some txn) current.begun (phase.Working visited count)
      → (statement : Option Bound) → slice_get txn.statements (length now.replies) ≡ statement
      → working_need session txn now visited statement ≡ Chunk table chunk → WorkingVisit session txn now visited count statement old progress after new
      → TurnIsTaken (working_turn setting state number txn current.begun visited count statement)
  work_chunk visited count at_here at_there fits None at need visit = close_chunk (ap is_stamping at_there) (ap undone at_there) txn.commits need visit
  work_chunk visited count at_here at_there fits (Some statement) at need visit =
      statement_step laws setting state parts sessions number session now current visited count old progress after new statement table chunk
      (record {
        at_open = is.at_open;
        stands = record {
          phase_is = at_here;
          statement_is = ap (λ (txn : Option Txn). statement_at txn (length now.replies)) is.txn_is ∙ at;
        };
        reads_fit = subst (λ (statement : Option Bound). ReadsFit setting (view setting state current.begun) statement) at is.reads_fit;
        since = λ name. laws.since setting state parts sessions number session now current name is.at_open (ap is_stamping at_there);
        visits = fits.visits statement (ap (λ (replies : List Reply). slice_get txn.statements (length replies)) (sym is.replies) ∙ at);
        shapes = is.shapes;
        chunks = is.chunks;
      })
      found need visit

  -- the kinds of visits of a chunk
  pub chunk_step : (stands : Phase) → now.phase ≡ stands → current.phase ≡ stands → PhaseFits setting (Some txn) current.begun stands
      → phase_need session txn now stands ≡ Chunk table chunk → PhaseVisit session txn now stands old progress after new
      → TurnIsTaken (phase_turn setting state number txn current.begun stands)
  chunk_step (phase.Working visited count) at_here at_there fits need visit =
      subst (λ (replies : List Reply). TurnIsTaken (working_turn setting state number txn current.begun visited count (slice_get txn.statements (length replies))))
      is.replies (work_chunk visited count at_here at_there fits (slice_get txn.statements (length now.replies)) refl need visit)
  chunk_step (phase.Stamping visited) at_here at_there fits need visit = stamp_chunk visited at_here need visit
  chunk_step (phase.Undoing visited cause) at_here at_there fits need visit =
      undo_chunk visited cause (ap is_stamping at_there) (ap undone at_there) need visit
