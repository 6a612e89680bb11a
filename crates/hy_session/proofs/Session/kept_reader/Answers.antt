use Rattle.std.proofs.Common.{◌≡◌, ℕ, List, Option, Some, length, sym, subst, ap, ◌∙◌, arith}
use Rattle.hy_event.specs.declared.SessionData.{SessionData}
use Rattle.hy_session.specs.declared.prepared.Prepared.{Prepared}
use Rattle.hy_session.specs.contracts.Session.{the_view}
use Rattle.hy_session.specs.Preparing.{IsKept, IsPlanFor}
use Rattle.hy_session.proofs.KeptPlans.{kept_is_for}
use Rattle.hy_session.proofs.Session.kept_reader.Goals as goal

pub returns-in-Some : goal.returns-in-Some
returns-in-Some c =
    let inside = c.self.inside in
    let session = c.args.self.now in
    let same = c.self.view_is in
    let kept = c.in-Some.kept in
    let holds : IsKept session.shapes session.program (Some kept) =
    subst (λ (s : SessionData). IsKept s.shapes s.program (Some kept)) same
    (subst (λ (p : Option Prepared). IsKept inside.shapes inside.program p) c.in-Some.is c.self.invariant.0.kept) in
    let ended : kept.txn ≡ length session.done =
    subst (λ (s : SessionData). kept.txn ≡ length s.done) same (omega (arith, c.if-kept-len.true, c.len.ensures, inside.done.ok.0)) in
    kept_is_for session kept holds ended (c.if-kept-number.true ∙ c.count_answered-number.ensures)
