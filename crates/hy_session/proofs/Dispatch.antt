-- Which visit of a chunk is a session's, by where its open transaction stands.
use Rattle.std.proofs.Common.{◌≡◌, ℕ, List, Bool, true, false, Option, None, Some, length, refl, ap, sym, ◌∙◌, subst}
use Rattle.std.specs.Prelude.{slice_get}
use Rattle.std.specs.Option.{option_map_or}
use Rattle.hy_bound.specs.declared.Bound.{Bound}
use Rattle.hy_bound.specs.declared.Bound.TheVariants.{Update, Delete, RollbackTo}
use Rattle.hy_bound.specs.declared.Assign.{Assign}
use Rattle.hy_bound.specs.declared.Txn.{Txn}
use Rattle.hy_bound.specs.Condition.{Condition}
use Rattle.hy_bound.specs.declared.Ending.{Ending}
use Rattle.hy_bound.specs.declared.Ending.TheVariants.{RolledBack}
use Rattle.hy_undo.specs.Chunks.{ChunkData}
use Rattle.hy_event.specs.declared.SessionData.{SessionData}
use Rattle.hy_event.specs.declared.Open.{Open}
use Rattle.hy_protocol.specs.declared.Phase.{Phase}
use Rattle.hy_protocol.specs.declared.Phase.TheVariants.{Working, Stamping, Undoing}
use Rattle.hy_event.specs.declared.Need.TheVariants.{Chunk}
use Rattle.hy_protocol.specs.declared.Progress.{Progress}
use Rattle.hy_event.specs.Backing.{BackVisit}
use Rattle.hy_event.specs.Ended.{statements_in}
use Rattle.hy_event.specs.Events.{ChunkEvent, ClosingVisit, PhaseVisit, SessionVisit, StatementVisit, WorkingVisit}
use Rattle.hy_event.specs.Needs.{closing_need, need_of, phase_need, session_need, working_need}
use Rattle.hy_event.specs.Sessions.{txn_at}
use Rattle.hy_event.specs.Stamping.{StampVisit}
use Rattle.hy_event.specs.Undoing.{UndoVisit}
use Rattle.hy_event.specs.Writing.{WriteVisit}
use Rattle.hy_session.specs.Near.{present_statement}
use Rattle.hy_session.specs.Short.{statement_prunes, visit_prunes}

-- ---- a session that is at a transaction of its program, which is open

module _ (session : SessionData) (txn : Txn) (now : Open) (there : txn_at session ≡ Some txn) (opened : session.now ≡ Some now) where
  -- it needs what its open transaction needs
  pub session_needs : need_of session ≡ phase_need session txn now now.phase
  session_needs = ap (λ (t : Option Txn). session_need session t session.now) there ∙ ap (λ (n : Option Open). session_need session (Some txn) n) opened

  -- a visit of its open transaction is one of it
  pub session_visits : (old new : ChunkData) (progress : Progress) (after : SessionData) → PhaseVisit session txn now now.phase old progress after new
      → ChunkEvent session old progress after new
  session_visits old new progress after visit =
      let open_one : SessionVisit session (Some txn) session.now old progress after new =
      subst (λ (n : Option Open). SessionVisit session (Some txn) n old progress after new) (sym opened) visit in
      subst (λ (t : Option Txn). SessionVisit session t session.now old progress after new) (sym there) open_one

  pub stamp_event : (visited : ℕ) → now.phase ≡ Stamping visited → (old new : ChunkData) (progress : Progress) (after : SessionData)
      → StampVisit session now visited old progress after new → ChunkEvent session old progress after new
  stamp_event visited stands old new progress after visit =
      session_visits old new progress after (subst (λ (p : Phase). PhaseVisit session txn now p old progress after new) (sym stands) visit)

  pub undo_event : (visited : ℕ) (cause : Ending) → now.phase ≡ Undoing visited cause → (old new : ChunkData) (progress : Progress) (after : SessionData)
      → UndoVisit session now visited cause old progress after new → ChunkEvent session old progress after new
  undo_event visited cause stands old new progress after visit =
      session_visits old new progress after (subst (λ (p : Phase). PhaseVisit session txn now p old progress after new) (sym stands) visit)

  -- ---- its statements

  module _ (visited count : ℕ) (works : now.phase ≡ Working visited count) where
    pub work_needs : need_of session ≡ working_need session txn now visited (slice_get txn.statements (length now.replies))
    work_needs = session_needs ∙ ap (phase_need session txn now) works

    pub work_visits : (old new : ChunkData) (progress : Progress) (after : SessionData)
        → WorkingVisit session txn now visited count (slice_get txn.statements (length now.replies)) old progress after new
        → ChunkEvent session old progress after new
    work_visits old new progress after visit =
        session_visits old new progress after (subst (λ (p : Phase). PhaseVisit session txn now p old progress after new) (sym works) visit)

    module _ (statement : Bound) (present : slice_get txn.statements (length now.replies) ≡ Some statement) where
      pub statement_event : (old new : ChunkData) (progress : Progress) (after : SessionData)
          → StatementVisit session now visited count statement old progress after new → ChunkEvent session old progress after new
      statement_event old new progress after visit =
          work_visits old new progress after (subst (λ (o : Option Bound). WorkingVisit session txn now visited count o old progress after new) (sym present) visit)

      pub statement_is : present_statement session now ≡ Some statement
      statement_is = ap (λ (t : Option Txn). slice_get (statements_in t) (length now.replies)) there ∙ present

      -- it prunes where one of the statement does
      pub prunes_as : visit_prunes session now now.phase ≡ statement_prunes session visited statement
      prunes_as = ap (visit_prunes session now) works ∙ ap (λ (o : Option Bound). option_map_or (statement_prunes session visited) o false) statement_is

    module _ (none : slice_get txn.statements (length now.replies) ≡ None) where
      -- what closes a transaction does not prune
      pub close_prunes_nothing : visit_prunes session now now.phase ≡ false
      close_prunes_nothing =
          ap (visit_prunes session now) works ∙ (ap (λ (t : Option Txn). option_map_or (statement_prunes session visited) (slice_get (statements_in t) (length now.replies)) false) there
          ∙ ap (λ (o : Option Bound). option_map_or (statement_prunes session visited) o false) none)

      pub close_needs : need_of session ≡ closing_need session now txn.commits
      close_needs = work_needs ∙ ap (working_need session txn now visited) none

      pub close_event : txn.commits ≡ false → (old new : ChunkData) (progress : Progress) (after : SessionData)
          → UndoVisit session now 0 RolledBack old progress after new → ChunkEvent session old progress after new
      close_event rolls old new progress after visit =
          let closing : ClosingVisit session now txn.commits old progress after new =
          subst (λ (b : Bool). ClosingVisit session now b old progress after new) (sym rolls) visit in
          work_visits old new progress after
          (subst (λ (o : Option Bound). WorkingVisit session txn now visited count o old progress after new) (sym none) closing)

-- a transaction that commits closes at the core
pub rolls_back : (session : SessionData) (now : Open) (commits : Bool) (table number : ℕ) → closing_need session now commits ≡ Chunk table number → commits ≡ false
rolls_back session now true table number need = cc
rolls_back session now false table number need = refl

-- ---- a statement, by its parts

module _ (session : SessionData) (now : Open) (visited count : ℕ) (statement : Bound) (table : ℕ) (pred : Condition)
    (old : ChunkData) (progress : Progress) (after : SessionData) (new : ChunkData) where
  pub as_update : (sets : List Assign) → statement ≡ Update table sets pred
      → WriteVisit session now visited count statement table (Some sets) pred old progress after new
      → StatementVisit session now visited count statement old progress after new
  as_update sets is visit =
      let one : StatementVisit session now visited count (Update table sets pred) old progress after new =
      subst (λ (b : Bound). WriteVisit session now visited count b table (Some sets) pred old progress after new) is visit in
      subst (λ (b : Bound). StatementVisit session now visited count b old progress after new) (sym is) one

  pub as_delete : statement ≡ Delete table pred → WriteVisit session now visited count statement table None pred old progress after new
      → StatementVisit session now visited count statement old progress after new
  as_delete is visit =
      let one : StatementVisit session now visited count (Delete table pred) old progress after new =
      subst (λ (b : Bound). WriteVisit session now visited count b table None pred old progress after new) is visit in
      subst (λ (b : Bound). StatementVisit session now visited count b old progress after new) (sym is) one

-- a visit that goes back is one of a ROLLBACK TO
pub as_back : (session : SessionData) (now : Open) (visited count : ℕ) (statement : Bound) (name : List ℕ) (old : ChunkData) (progress : Progress)
    (after : SessionData) (new : ChunkData) → statement ≡ RollbackTo name → BackVisit session now visited name old progress after new
    → StatementVisit session now visited count statement old progress after new
as_back session now visited count statement name old progress after new is visit =
    let one : StatementVisit session now visited count (RollbackTo name) old progress after new = visit in
    subst (λ (b : Bound). StatementVisit session now visited count b old progress after new) (sym is) one
