use Rattle.std.proofs.Common.{◌≡◌, ℕ, suc, List, [], ◌∷◌, ◌++◌, Option, None, Some, length, refl, ap, ◌∙◌, subst, arith}
use Rattle.hy_bound.specs.declared.Record.{Record}
use Rattle.hy_bound.specs.declared.Reply.{Reply}
use Rattle.hy_bound.specs.declared.Reply.TheVariants.{Inserted}
use Rattle.hy_plan.specs.Reads.{records_of}
use Rattle.hy_event.specs.declared.Open.{Open}
use Rattle.hy_protocol.specs.declared.Phase.{Phase}
use Rattle.hy_session.specs.Written.{Came, kept_as}
use Rattle.hy_session.proofs.VisitTurns.{moved_to}
use Rattle.hy_session.proofs.StatementVisits.{added_one, answered_by, has_noted, places_here, places_not, reserved_so}
use Rattle.hy_session.proofs.inserting.place.Goals as goal

pub returns-in-Some-clause-event : goal.returns-in-Some-clause-event
returns-in-Some-clause-event c = λ session is opened.
    let insertion = c.args.insertion.now in
    let now = c.args.now.now in
    let old = c.args.chunk.now.shown in
    let new = c.place_in.new.chunk.shown in
    let kept = kept_as c.now.inside.saved c.place_in.new.notes.notes c.place_in.new.notes.levels in
    let shapes = c.args.visitor.now.shapes.now in
    let many : c.len.result ≡ length now.replies =
    omega (arith, c.len.ensures, c.now.inside.replies.ok.0, ap (λ (v : Open). length v.replies) c.now.view_is) in
    let did : Came session now insertion.table insertion.row.now old (Some c.in-Some.pos) new kept =
    subst (λ (answer : Option ℕ). Came session now insertion.table insertion.row.now old answer new kept) c.in-Some.is
    (c.in_ok-pos.ensures.done session now c.now.inside.saved is (has_noted _ now c.now.inside.saved c.now.inside.notes.levels c.now.view_is refl)) in
    places_here session now _ c.args.visitor.now insertion.present.visited insertion.present.statement.now insertion.table old new is opened
    insertion.row.now kept c.args.number c.in-Some.pos did
    (answered_by _ now kept c.push_answer.new.replies.items c.push_answer.new.took.items c.push_answer.new.log.entries _
    Inserted Inserted (Some c.in-Some.pos)
    c.in_ok-records.records (records_of shapes (suc (length now.replies)) insertion.present.statement.now [])
    c.now.view_is
    (c.push_answer.ensures.replies ∙ ap (λ (r : List Reply). r ++ Inserted ∷ []) c.reserve_answer.ensures.replies)
    (c.push_answer.ensures.took ∙ ap (λ (t : List (Option ℕ)). t ++ Some c.in-Some.pos ∷ []) c.reserve_answer.ensures.took)
    (c.push_answer.ensures.log ∙ ap (λ (l : List Record). l ++ c.in_ok-records.records) c.reserve_answer.ensures.log)
    c.clear.ensures.items refl
    (c.in_ok-records.ensures ∙ ap (λ (n : ℕ). records_of shapes (suc n) insertion.present.statement.now []) many))

pub returns-in-None-clause-event : goal.returns-in-None-clause-event
returns-in-None-clause-event c = λ session is opened.
    let insertion = c.args.insertion.now in
    let now = c.args.now.now in
    let old = c.args.chunk.now.shown in
    let new = c.place_in.new.chunk.shown in
    let kept = kept_as c.now.inside.saved c.place_in.new.notes.notes c.place_in.new.notes.levels in
    let one : c.in_ok-visited.visited ≡ suc insertion.present.visited =
    added_one insertion.present.visited c.in_ok-visited.visited _ c.checked_add.result c.checked_add.ensures c.in_ok-visited.ensures.ok_part in
    let did : Came session now insertion.table insertion.row.now old None new kept =
    subst (λ (answer : Option ℕ). Came session now insertion.table insertion.row.now old answer new kept) c.in-None.is
    (c.in_ok-pos.ensures.done session now c.now.inside.saved is (has_noted _ now c.now.inside.saved c.now.inside.notes.levels c.now.view_is refl)) in
    places_not session now _ c.args.visitor.now insertion.present.visited insertion.present.statement.now insertion.table old new is opened
    insertion.row.now kept c.args.number c.in_ok-visited.visited did one
    (reserved_so _ now kept c.reserve_answer.new.replies.items c.reserve_answer.new.took.items c.reserve_answer.new.log.entries c.next_phase-now-inside.result
    c.now.view_is c.reserve_answer.ensures.replies c.reserve_answer.ensures.took c.reserve_answer.ensures.log
    ∙ ap (λ (p : Phase). moved_to now kept p) c.next_phase-now-inside.ensures)
