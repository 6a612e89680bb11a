use Rattle.std.proofs.Common.{◌≡◌, ℕ, suc, ◌+◌, List, [], ◌∷◌, ◌++◌, Option, None, Result, Ok, Err, length, ap, ◌∙◌, subst, arith, refl}
use Rattle.hy_bound.specs.declared.Record.{Record}
use Rattle.hy_bound.specs.declared.Reply.{Reply}
use Rattle.hy_chunk.specs.Writes.{sets_of}
use Rattle.hy_plan.specs.Reads.{records_of}
use Rattle.hy_bound.specs.declared.Ending.{Ending}
use Rattle.hy_undo.specs.declared.refusal.Refusal.{Refusal}
use Rattle.hy_event.specs.declared.Open.{Open}
use Rattle.hy_protocol.specs.declared.Phase.TheVariants.{Undoing}
use Rattle.hy_event.specs.Writing.{told_by}
use Rattle.hy_session.specs.Written.{Wrote, kept_as}
use Rattle.hy_session.proofs.VisitTurns.{moved_to}
use Rattle.hy_session.proofs.StatementVisits.{answered_by, has_noted, refuses, reserved_so, writes_last}
use Rattle.hy_session.proofs.writing.write_last.Goals as goal

pub returns-in-Ok-clause-event : goal.returns-in-Ok-clause-event
returns-in-Ok-clause-event c = λ session is opened.
    let write = c.args.write.now in
    let now = c.args.now.now in
    let old = c.args.chunk.now.shown in
    let new = c.write_chunk.new.chunk.shown in
    let kept = kept_as c.now.inside.saved c.write_chunk.new.notes.notes c.write_chunk.new.notes.levels in
    let shapes = c.args.visitor.now.shapes.now in
    let many : c.len.result ≡ length now.replies =
    omega (arith, c.len.ensures, c.now.inside.replies.ok.0, ap (λ (v : Open). length v.replies) c.now.view_is) in
    let did : Wrote session now write.table (sets_of write.kind) write.pred.now old (Ok c.in-Ok.rows) new kept =
    subst (λ (answer : Result ℕ Refusal). Wrote session now write.table (sets_of write.kind) write.pred.now old answer new kept) c.in-Ok.is
    (c.in_ok-rows.ensures.done session now c.now.inside.saved is (has_noted _ now c.now.inside.saved c.now.inside.notes.levels c.now.view_is refl)) in
    writes_last session now _ c.args.visitor.now write.present.visited write.present.statement.now write.table old new is opened
    write.present.count (sets_of write.kind) write.pred.now kept c.in-Ok.rows did c.requires.last
    (answered_by _ now kept c.push_answer.new.replies.items c.push_answer.new.took.items c.push_answer.new.log.entries _
    c.reply_of.result (told_by (sets_of write.kind) (write.present.count + c.in-Ok.rows)) None
    c.in_ok-records.records (records_of shapes (suc (length now.replies)) write.present.statement.now [])
    c.now.view_is
    (c.push_answer.ensures.replies ∙ ap (λ (r : List Reply). r ++ c.reply_of.result ∷ []) c.reserve_answer.ensures.replies)
    (c.push_answer.ensures.took ∙ ap (λ (t : List (Option ℕ)). t ++ None ∷ []) c.reserve_answer.ensures.took)
    (c.push_answer.ensures.log ∙ ap (λ (l : List Record). l ++ c.in_ok-records.records) c.reserve_answer.ensures.log)
    c.clear.ensures.items
    (c.reply_of.ensures ∙ ap (λ (n : ℕ). told_by (sets_of write.kind) (write.present.count + n)) c.from.ensures)
    (c.in_ok-records.ensures ∙ ap (λ (n : ℕ). records_of shapes (suc n) write.present.statement.now []) many))

pub returns-in-Err-clause-event : goal.returns-in-Err-clause-event
returns-in-Err-clause-event c = λ session is opened.
    let write = c.args.write.now in
    let now = c.args.now.now in
    let old = c.args.chunk.now.shown in
    let new = c.write_chunk.new.chunk.shown in
    let kept = kept_as c.now.inside.saved c.write_chunk.new.notes.notes c.write_chunk.new.notes.levels in
    let did : Wrote session now write.table (sets_of write.kind) write.pred.now old (Err c.in-Err.refusal) new kept =
    subst (λ (answer : Result ℕ Refusal). Wrote session now write.table (sets_of write.kind) write.pred.now old answer new kept) c.in-Err.is
    (c.in_ok-rows.ensures.done session now c.now.inside.saved is (has_noted _ now c.now.inside.saved c.now.inside.notes.levels c.now.view_is refl)) in
    refuses session now _ c.args.visitor.now write.present.visited write.present.statement.now write.table old new is opened
    write.present.count (sets_of write.kind) write.pred.now kept c.in-Err.refusal did
    (reserved_so _ now kept c.reserve_answer.new.replies.items c.reserve_answer.new.took.items c.reserve_answer.new.log.entries (Undoing 0 c.refusal_ending-refused.result)
    c.now.view_is c.reserve_answer.ensures.replies c.reserve_answer.ensures.took c.reserve_answer.ensures.log
    ∙ ap (λ (e : Ending). moved_to now kept (Undoing 0 e)) c.refusal_ending-refused.ensures)
