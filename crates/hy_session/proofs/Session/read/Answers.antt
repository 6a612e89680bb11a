use Rattle.std.proofs.Common.{List, [], None, ap, subst}
use Rattle.std.proofs.lemmas.Result.{IfOk-weaker}
use Rattle.hy_chunk.specs.Views.{Whole}
use Rattle.hy_meaning.specs.Statement.{Table}
use Rattle.hy_event.specs.declared.SessionData.{SessionData}
use Rattle.hy_protocol.specs.declared.Phase.TheVariants.{Working}
use Rattle.hy_event.specs.Reading.{with_gathered}
use Rattle.hy_protocol.specs.Turns.{Answers, Visits}
use Rattle.hy_event.specs.Turns.{Takes}
use Rattle.hy_session.proofs.SelectVisits.{given_event, kept_event, with_piece}
use Rattle.hy_session.proofs.Session.read.Goals as goal

pub returns-in-More-clause-event : goal.returns-in-More-clause-event
returns-in-More-clause-event c =
    let session = c.args.self.now in
    let step = c.in_ok-number.ensures.step in
    IfOk-weaker c.keep.result _ _
    (λ progress turn. kept_event session c.args.chunk.now.shown progress c.keep.new.self c.step_by_plan.new.chunk.shown c.in_ok-number.field-0
    c.in-More.number c.in-More.visited c.in-More.piece step c.in-More.is
    (subst (λ (s : SessionData). Takes (with_piece c.in-More.number c.in-More.piece.rows s) (Visits [] (Working c.in-More.visited 0)) progress c.keep.new.self)
    c.step_by_plan.ensures.same turn)
    (ap (λ (chunk : Whole). chunk.shown) c.in_ok-number.ensures.all)) c.keep.ensures.turn

pub returns-in-Answer-clause-event : goal.returns-in-Answer-clause-event
returns-in-Answer-clause-event c =
    let session = c.args.self.now in
    let step = c.in_ok-number.ensures.step in
    IfOk-weaker c.give.result _ _
    (λ progress turn. given_event session c.args.chunk.now.shown progress c.give.new.self c.step_by_plan.new.chunk.shown c.in_ok-number.field-0
    c.in-Answer.reply c.in-Answer.records step c.in-Answer.is
    (subst (λ (s : SessionData). (gathered : List Table) → Takes (with_gathered gathered s) (Answers [] c.in-Answer.reply None c.in-Answer.records) progress
    c.give.new.self) c.step_by_plan.ensures.same turn)
    (ap (λ (chunk : Whole). chunk.shown) c.in_ok-number.ensures.all)) c.give.ensures.turn
