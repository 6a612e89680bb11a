use Rattle.std.proofs.Common.{◌≡◌, ℕ, List, Option, Some, length, take, ap, sym, subst, ◌∙◌, arith}
use Rattle.std.specs.Option.{option_copied}
use Rattle.std.specs.Prelude.{slice_get}
use Rattle.hy_bound.specs.declared.Bound.{Bound}
use Rattle.hy_bound.specs.declared.Shape.{Shape}
use Rattle.hy_bound.specs.declared.Txn.{Txn}
use Rattle.hy_stamp.specs.Times.{id_of}
use Rattle.hy_event.specs.declared.SessionData.{SessionData}
use Rattle.hy_event.specs.declared.Open.{Open}
use Rattle.hy_protocol.specs.declared.Phase.TheVariants.{Working}
use Rattle.hy_event.specs.Ended.{statements_in}
use Rattle.hy_event.specs.Sessions.{txn_at}
use Rattle.hy_event.specs.Turns.{with_open}
use Rattle.hy_session.specs.Limits.{HasOrder, IsInOrder}
use Rattle.hy_session.specs.declared.visitors.Visitor.{Visitor}
use Rattle.hy_session.specs.Passing.{Passes}
use Rattle.hy_session.specs.Preparing.{IsKept}
use Rattle.hy_session.specs.Visitors.{IsVisitor}
use Rattle.hy_session.proofs.VisitNumbers.{room_stays}
use Rattle.hy_session.proofs.GoneSessions.{gone_stays, known_part, session_goes}
use Rattle.hy_session.proofs.Results.{got}
use Rattle.hy_session.proofs.Session.pass.Goals as goal

pub returns-clause-passes : goal.returns-clause-passes
returns-clause-passes c = λ table number need.
    let session : SessionData = c.args.self.now in
    let now : Open = c.in-Some-now.now in
    let view = c.self.view_is in
    let visitor : Visitor = record {
      label = c.label-label.result;
      id = c.id.result;
      shapes = c.as_slice-3.result;
      chunks = c.self.inside.chunks;
      prunes = c.self.inside.prunes;
    } in
    let is : IsVisitor session visitor = record {
      label = c.label-label.ensures;
      id = c.id.ensures ∙ ap id_of c.label-label.ensures;
      shapes = c.as_slice-3.ensures ∙ ap (λ (v : SessionData). v.shapes) view;
      chunks = ap (λ (v : SessionData). v.chunks) view;
      prunes = ap (λ (v : SessionData). v.prunes) view;
    } in
    let done : length c.self.inside.done.items ≡ length session.done = ap (λ (v : SessionData). length v.done) view in
    let there : txn_at session ≡ Some c.in-Some.txn.now =
    got session.program c.as_slice-2.result.now c.len-2.result (length session.done) c.in-Some.txn.now
    (c.as_slice-2.ensures ∙ ap (λ (v : SessionData). v.program) view)
    (omega (arith, c.len-2.ensures, c.self.inside.done.ok.0, done))
    c.in-Some.ensures.lookup.0 c.in-Some.ensures.lookup.1 in
    let opened : session.now ≡ Some now = ap (λ (v : SessionData). v.now) (sym view) ∙ c.in-Some-now.is in
    let works : now.phase ≡ Working c.in-Working.visited c.in-Working.count = ap (λ (v : Open). v.phase) (sym c.now.view_is) ∙ c.in-Working.is in
    let replies : length c.now.inside.replies.items ≡ length now.replies = ap (λ (v : Open). length v.replies) c.now.view_is in
    let present : slice_get c.in-Some.txn.now.statements (length now.replies) ≡ Some c.in-Some-get.statement.now =
    got c.in-Some.txn.now.statements c.as_slice-4.result.now c.len-3.result (length now.replies) c.in-Some-get.statement.now c.as_slice-4.ensures
    (omega (arith, c.len-3.ensures, c.now.inside.replies.ok.0, replies))
    c.in-Some-get.ensures.lookup.0 c.in-Some-get.ensures.lookup.1 in
    let kept : IsKept session.shapes session.program c.self.inside.prepared =
    subst (λ (shapes : List Shape). IsKept shapes session.program c.self.inside.prepared) (ap (λ (v : SessionData). v.shapes) view)
    (subst (λ (program : List Txn). IsKept c.self.inside.shapes program c.self.inside.prepared) (ap (λ (v : SessionData). v.program) view)
    c.self.invariant.0.kept) in
    let known =
    known_part c.self.inside.prepared c.len-4.result c.len-5.result (length session.done) (length now.replies) c.first_part-part.result
    (omega (arith, c.len-4.ensures, c.self.inside.done.ok.0, done)) (omega (arith, c.len-5.ensures, c.now.inside.replies.ok.0, replies))
    c.first_part-part.ensures in
    subst (λ (s : SessionData). Passes session table number (take c.pass_statement.result c.args.chunks.now) (with_open c.pass_statement.new.now s)) (sym view)
    (session_goes session visitor c.in-Some.txn.now now c.pass_statement.new.now c.in-Working.visited c.in-Working.count is there opened works
    c.self.inside.prepared kept
    (λ statement at. ap (λ (t : Option Txn). slice_get (statements_in t) (length now.replies)) there ∙ at)
    c.in-Some-get.statement.now (option_copied c.first_part-part.result) (take c.pass_statement.result c.args.chunks.now) present known
    c.pass_statement.ensures.gone table number need)

pub invariant_of-self-2 : goal.invariant_of-self-2
invariant_of-self-2 c =
    let now : Open = c.in-Some-now.now in
    let opened : c.args.self.now.now ≡ Some now = ap (λ (v : SessionData). v.now) (sym c.self.view_is) ∙ c.in-Some-now.is in
    let order : HasOrder c.args.self.now.now = subst (λ (s : SessionData). HasOrder s.now) c.self.view_is c.self.invariant.2 in (
      c.self.invariant.0,
      room_stays c.self.inside.now now c.in-Some-now.is c.self.invariant.1 c.pass_statement.new.now,
      gone_stays IsInOrder (λ one visited count held. record { notes = held.notes; saved = held.saved; wrote = held.wrote })
          (record {
            label = c.label-label.result;
            id = c.id.result;
            shapes = c.as_slice-3.result;
            chunks = c.self.inside.chunks;
            prunes = c.self.inside.prunes;
          })
          c.in-Working.visited c.in-Working.count now c.pass_statement.new.now (take c.pass_statement.result c.args.chunks.now)
          (subst HasOrder opened order) c.in-Some-get.statement.now (option_copied c.first_part-part.result) c.pass_statement.ensures.gone,
    )
