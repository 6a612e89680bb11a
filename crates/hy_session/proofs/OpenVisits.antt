-- Visits of an open transaction are visits of its session, in each way that it may stand.
use Rattle.std.proofs.Common.{◌≡◌, ℕ, None, Some, Result, length, sym, ◌∙◌, subst}
use Rattle.std.specs.Prelude.{IfOk, slice_get}
use Rattle.hy_bound.specs.declared.Bound.{Bound}
use Rattle.hy_bound.specs.declared.Txn.{Txn}
use Rattle.hy_chunk.specs.Views.{Whole}
use Rattle.hy_bound.specs.declared.Ending.{Ending}
use Rattle.hy_bound.specs.declared.Ending.TheVariants.{RolledBack}
use Rattle.hy_undo.specs.Chunks.{ChunkData}
use Rattle.hy_event.specs.declared.SessionData.{SessionData}
use Rattle.hy_event.specs.declared.Open.{Open}
use Rattle.hy_protocol.specs.declared.Phase.TheVariants.{Working, Stamping, Undoing}
use Rattle.hy_protocol.specs.declared.Progress.{Progress}
use Rattle.hy_event.specs.Events.{ChunkEvent, StatementVisit}
use Rattle.hy_event.specs.Sessions.{txn_at}
use Rattle.hy_event.specs.Stamping.{StampVisit}
use Rattle.hy_event.specs.Turns.{with_open}
use Rattle.hy_event.specs.Undoing.{UndoVisit}
use Rattle.hy_session.specs.declared.visitors.Visitor.{Visitor}
use Rattle.hy_session.specs.Near.{NearChunk}
use Rattle.hy_session.specs.Visitors.{ForVisitor, IsVisitor}
use Rattle.hy_session.proofs.Dispatch.{close_event, close_needs, rolls_back, stamp_event, statement_event, undo_event}
use Rattle.hy_session.proofs.Results.{ok_maps}

-- a visit of the open transaction alone is one of the session, whose other parts stay
with_others : (session seen : SessionData) (now : Open) (old new : ChunkData) (progress : Progress) → seen ≡ session
    → ChunkEvent session old progress (with_open now session) new → ChunkEvent session old progress (with_open now seen) new
with_others session seen now old new progress same event =
    subst (λ (s : SessionData). ChunkEvent session old progress (with_open now s) new) (sym same) event

module _ {E : Type 0} (session seen : SessionData) (visitor : Visitor) (txn : Txn) (now after : Open) (chunk : Whole) (new : ChunkData) (result : Result Progress E)
    (same : seen ≡ session) (is : IsVisitor session visitor) (there : txn_at session ≡ Some txn) (opened : session.now ≡ Some now) where
  -- what the open transaction did is an event of the session
  abbrev IsEvent : Type 0
  IsEvent = IfOk result (λ progress. ChunkEvent session chunk.shown progress (with_open after seen) new)

  pub worked : (visited count : ℕ) (statement : Bound) → now.phase ≡ Working visited count → slice_get txn.statements (length now.replies) ≡ Some statement
      → IfOk result (λ progress. ForVisitor visitor now after (λ one next. StatementVisit one now visited count statement chunk.shown progress next new))
      → IsEvent
  worked visited count statement works present did =
      ok_maps result (λ progress. ForVisitor visitor now after (λ one next. StatementVisit one now visited count statement chunk.shown progress next new))
      (λ progress. ChunkEvent session chunk.shown progress (with_open after seen) new)
      (λ progress visit. with_others session seen after chunk.shown new progress same
      (statement_event session txn now there opened visited count works statement present chunk.shown new progress (with_open after session) (visit session is opened)))
      did

  pub stamped : (visited : ℕ) → now.phase ≡ Stamping visited
      → IfOk result (λ progress. ForVisitor visitor now after (λ one next. StampVisit one now visited chunk.shown progress next new)) → IsEvent
  stamped visited stands did =
      ok_maps result (λ progress. ForVisitor visitor now after (λ one next. StampVisit one now visited chunk.shown progress next new))
      (λ progress. ChunkEvent session chunk.shown progress (with_open after seen) new)
      (λ progress visit. with_others session seen after chunk.shown new progress same
      (stamp_event session txn now there opened visited stands chunk.shown new progress (with_open after session) (visit session is opened)))
      did

  pub undone : (visited : ℕ) (cause : Ending) → now.phase ≡ Undoing visited cause
      → IfOk result (λ progress. ForVisitor visitor now after (λ one next. UndoVisit one now visited cause chunk.shown progress next new)) → IsEvent
  undone visited cause stands did =
      ok_maps result (λ progress. ForVisitor visitor now after (λ one next. UndoVisit one now visited cause chunk.shown progress next new))
      (λ progress. ChunkEvent session chunk.shown progress (with_open after seen) new)
      (λ progress visit. with_others session seen after chunk.shown new progress same
      (undo_event session txn now there opened visited cause stands chunk.shown new progress (with_open after session) (visit session is opened)))
      did

  pub closed : (visited count : ℕ) → NearChunk session chunk → now.phase ≡ Working visited count → slice_get txn.statements (length now.replies) ≡ None
      → IfOk result (λ progress. ForVisitor visitor now after (λ one next. UndoVisit one now 0 RolledBack chunk.shown progress next new)) → IsEvent
  closed visited count near works none did =
      ok_maps result (λ progress. ForVisitor visitor now after (λ one next. UndoVisit one now 0 RolledBack chunk.shown progress next new))
      (λ progress. ChunkEvent session chunk.shown progress (with_open after seen) new)
      (λ progress visit. with_others session seen after chunk.shown new progress same
      (close_event session txn now there opened visited count works none
      (rolls_back session now txn.commits chunk.shown.table near.number (sym (close_needs session txn now there opened visited count works none) ∙ near.needed))
      chunk.shown new progress (with_open after session) (visit session is opened)))
      did

-- the same of equal results, sessions and chunks
pub event_moves : {E : Type 0} (session : SessionData) (old : ChunkData) (result other : Result Progress E) (after own : SessionData) (chunk there : Whole)
    → result ≡ other → after ≡ own → chunk ≡ there → IfOk other (λ progress. ChunkEvent session old progress own there.shown)
    → IfOk result (λ progress. ChunkEvent session old progress after chunk.shown)
event_moves {E = E} session old result other after own chunk there results sessions chunks did =
    subst (λ (r : Result Progress E). IfOk r (λ progress. ChunkEvent session old progress after chunk.shown)) (sym results)
    (subst (λ (s : SessionData). IfOk other (λ progress. ChunkEvent session old progress s chunk.shown)) (sym sessions)
    (subst (λ (w : Whole). IfOk other (λ progress. ChunkEvent session old progress own w.shown)) (sym chunks) did))
