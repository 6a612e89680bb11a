-- Which visits leave no long chain behind them, by where the open transaction stands.
use Rattle.std.proofs.Common.{◌≡◌, ℕ, List, Option, Some, Result, true, false, length, ap, sym, ◌∙◌, subst}
use Rattle.std.specs.Prelude.{OnOk, slice_get}
use Rattle.hy_bound.specs.declared.Bound.{Bound}
use Rattle.hy_bound.specs.declared.Bound.TheVariants.{RollbackTo}
use Rattle.hy_bound.specs.declared.Txn.{Txn}
use Rattle.hy_prune.specs.declared.Cover.{Cover}
use Rattle.hy_chunk.specs.Views.{Whole}
use Rattle.hy_undo.specs.Chunks.{ChunkData}
use Rattle.hy_visit.specs.Pruning.{AllShort}
use Rattle.hy_event.specs.declared.SessionData.{SessionData}
use Rattle.hy_event.specs.declared.Open.{Open}
use Rattle.hy_protocol.specs.declared.Phase.TheVariants.{Working}
use Rattle.hy_protocol.specs.declared.Progress.{Progress}
use Rattle.hy_event.specs.Sessions.{txn_at}
use Rattle.hy_session.specs.declared.visitors.Visitor.{Visitor}
use Rattle.hy_session.specs.Short.{LeavesShort, statement_prunes, visit_prunes}
use Rattle.hy_session.specs.Visitors.{IsVisitor, ShortAt}
use Rattle.hy_session.proofs.Dispatch.{prunes_as}
use Rattle.hy_session.proofs.Results.{ok_holds}

-- a visit that prunes leaves no long chain, where it does so for the open transaction
short_open : (session : SessionData) (now : Open) (new : ChunkData) → session.now ≡ Some now
    → (session.prunes ≡ true → visit_prunes session now now.phase ≡ true → AllShort now.cover new.places) → LeavesShort session session.now new
short_open session now new opened short = subst (λ (n : Option Open). LeavesShort session n new) (sym opened) short

module _ (session : SessionData) (visitor : Visitor) (now : Open) (new : ChunkData) (is : IsVisitor session visitor) (opened : session.now ≡ Some now) where
  pub leaves_at : (txn : Txn) (visited count : ℕ) (statement : Bound) → txn_at session ≡ Some txn → now.phase ≡ Working visited count
      → slice_get txn.statements (length now.replies) ≡ Some statement → ShortAt visitor visited statement now.cover new → LeavesShort session session.now new
  leaves_at txn visited count statement there works present short =
      short_open session now new opened
      (λ prunes does. short session is prunes (sym (prunes_as session txn now there opened visited count works statement present) ∙ does))

  -- a stamp visit prunes as the visitor does
  pub leaves_stamped : (visitor.prunes ≡ true → AllShort now.cover new.places) → LeavesShort session session.now new
  leaves_stamped short = short_open session now new opened (λ prunes does. short (is.prunes ∙ prunes))

-- an undo visit, or what closes a transaction, does not prune
pub leaves_others : (session : SessionData) (now : Open) (new : ChunkData) → session.now ≡ Some now → visit_prunes session now now.phase ≡ false
    → LeavesShort session session.now new
leaves_others session now new opened kept = short_open session now new opened (λ prunes does. cc)

-- the same of equal results and chunks
pub leaving_moves : {E : Type 0} (session : SessionData) (result other : Result Progress E) (chunk there : Whole) → result ≡ other → chunk ≡ there
    → OnOk other (LeavesShort session session.now there.shown) → OnOk result (LeavesShort session session.now chunk.shown)
leaving_moves {E = E} session result other chunk there results chunks did =
    subst (λ (r : Result Progress E). OnOk r (LeavesShort session session.now chunk.shown)) (sym results)
    (subst (λ (w : Whole). OnOk other (LeavesShort session session.now w.shown)) (sym chunks) did)

-- going back prunes nothing
pub back_prunes_nothing : {E : Type 0} (result : Result Progress E) (visitor : Visitor) (visited : ℕ) (statement : Bound) (name : List ℕ) (cover : Cover)
    (new : ChunkData) → statement ≡ RollbackTo name → OnOk result (ShortAt visitor visited statement cover new)
back_prunes_nothing {E = E} result visitor visited statement name cover new is =
    ok_holds result (ShortAt visitor visited statement cover new)
    (λ session own prunes does. absurd (let never : true ≡ false = sym does ∙ ap (statement_prunes session visited) is in cc))
