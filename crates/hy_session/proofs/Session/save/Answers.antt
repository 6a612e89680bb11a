use Rattle.std.proofs.Common.{◌≡◌, Option, Some, arith, length, sym, ap, ◌∙◌, subst}
use Rattle.std.specs.Prelude.{slice_get}
use Rattle.std.specs.Option.{option_copied}
use Rattle.hy_protocol.specs.declared.Progress.{Progress}
use Rattle.hy_event.specs.Sessions.{txn_at}
use Rattle.hy_event.specs.Turns.{Takes, with_open}
use Rattle.hy_event.specs.declared.Open.{Open}
use Rattle.hy_event.specs.declared.SessionData.{SessionData}
use Rattle.hy_session.specs.CoreSteps.{open_after, reply_if, saving_of}
use Rattle.hy_session.specs.Limits.{HasOrder}
use Rattle.hy_session.proofs.Results.{got, got_if, ok_maps}
use Rattle.hy_session.proofs.Savings.{saving_in_order, takes_saving}
use Rattle.hy_session.proofs.VisitNumbers.{room_stays}
use Rattle.hy_session.proofs.Session.save.Goals as goal

pub invariant_of-self-2 : goal.invariant_of-self-2
invariant_of-self-2 c = (
  c.self.invariant.0,
  room_stays c.self.inside.now c.in-Some-now.now c.in-Some-now.is c.self.invariant.1 c.save_by.new.self,
  saving_in_order (option_copied c.get-2.result) c.in-Some-now.now c.save_by.new.self c.save_by.result (subst HasOrder c.in-Some-now.is c.self.invariant.2)
      c.save_by.ensures.turn c.save_by.ensures.err,
)

pub returns-clause-turn : goal.returns-clause-turn
returns-clause-turn c =
    let session = c.args.self.now in
    let txn = c.in-Some.txn.now in
    let now = c.in-Some-now.now in
    let statement = option_copied c.get-2.result in
    let there : txn_at session ≡ Some txn =
    got session.program c.as_slice.result.now c.len.result (length session.done) txn
    (c.as_slice.ensures ∙ ap (λ (v : SessionData). v.program) c.self.view_is)
    (omega (arith, c.len.ensures, c.self.inside.done.ok.0, ap (λ (v : SessionData). length v.done) c.self.view_is))
    c.in-Some.ensures.lookup.0 c.in-Some.ensures.lookup.1 in
    let opened : session.now ≡ Some now = ap (λ (v : SessionData). v.now) (sym c.self.view_is) ∙ c.in-Some-now.is in
    let present : slice_get txn.statements (length now.replies) ≡ statement =
    got_if txn.statements c.as_slice-2.result.now c.len-number.result (length now.replies) c.get-2.result c.as_slice-2.ensures
    (omega (arith, c.len-number.ensures, c.now.inside.replies.ok.0, ap (λ (v : Open). length v.replies) c.now.view_is))
    c.get-2.ensures.lookup.0 c.get-2.ensures.lookup.1 in
    ok_maps c.save_by.result (λ (progress : Progress). (c.save_by.new.self, progress) ≡ open_after statement (reply_if statement) now)
    (λ (progress : Progress). Takes session (saving_of session) progress _)
    (λ progress is. ap (λ (v : SessionData). (with_open c.save_by.new.self v, progress)) c.self.view_is
    ∙ takes_saving session txn now c.save_by.new.self progress statement there opened present is)
    c.save_by.ensures.turn
