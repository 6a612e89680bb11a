use Rattle.std.proofs.Common.{ℕ, ◌+◌, Result, Ok, Err, ap, ◌∙◌, subst, refl}
use Rattle.hy_chunk.specs.Writes.{sets_of}
use Rattle.hy_bound.specs.declared.Ending.{Ending}
use Rattle.hy_undo.specs.declared.refusal.Refusal.{Refusal}
use Rattle.hy_event.specs.declared.Open.{Open}
use Rattle.hy_protocol.specs.declared.Phase.TheVariants.{Working, Undoing}
use Rattle.hy_session.specs.Written.{Wrote, kept_as}
use Rattle.hy_session.proofs.VisitTurns.{moved_to}
use Rattle.hy_session.proofs.StatementVisits.{has_noted, refuses, writes_on}
use Rattle.hy_session.proofs.writing.write_on.Goals as goal

pub returns-in-Ok-clause-event : goal.returns-in-Ok-clause-event
returns-in-Ok-clause-event c = λ session is opened.
    let write = c.args.write.now in
    let now = c.args.now.now in
    let old = c.args.chunk.now.shown in
    let new = c.write_chunk.new.chunk.shown in
    let kept = kept_as c.now.inside.saved c.write_chunk.new.notes.notes c.write_chunk.new.notes.levels in
    let did : Wrote session now write.table (sets_of write.kind) write.pred.now old (Ok c.in-Ok.rows) new kept =
    subst (λ (answer : Result ℕ Refusal). Wrote session now write.table (sets_of write.kind) write.pred.now old answer new kept) c.in-Ok.is
    (c.in_ok-rows.ensures.done session now c.now.inside.saved is (has_noted _ now c.now.inside.saved c.now.inside.notes.levels c.now.view_is refl)) in
    writes_on session now _ c.args.visitor.now write.present.visited write.present.statement.now write.table old new is opened
    write.present.count (sets_of write.kind) write.pred.now kept c.in-Ok.rows c.args.visited did c.requires.next c.requires.more
    (ap (λ (v : Open). moved_to v kept (Working c.args.visited (write.present.count + c.from.result))) c.now.view_is
    ∙ ap (λ (n : ℕ). moved_to now kept (Working c.args.visited (write.present.count + n))) c.from.ensures)

pub returns-in-Err-clause-event : goal.returns-in-Err-clause-event
returns-in-Err-clause-event c = λ session is opened.
    let write = c.args.write.now in
    let now = c.args.now.now in
    let old = c.args.chunk.now.shown in
    let new = c.write_chunk.new.chunk.shown in
    let kept = kept_as c.now.inside.saved c.write_chunk.new.notes.notes c.write_chunk.new.notes.levels in
    let did : Wrote session now write.table (sets_of write.kind) write.pred.now old (Err c.in-Err.refusal) new kept =
    subst (λ (answer : Result ℕ Refusal). Wrote session now write.table (sets_of write.kind) write.pred.now old answer new kept) c.in-Err.is
    (c.in_ok-rows.ensures.done session now c.now.inside.saved is (has_noted _ now c.now.inside.saved c.now.inside.notes.levels c.now.view_is refl)) in
    refuses session now _ c.args.visitor.now write.present.visited write.present.statement.now write.table old new is opened
    write.present.count (sets_of write.kind) write.pred.now kept c.in-Err.refusal did
    (ap (λ (v : Open). moved_to v kept (Undoing 0 c.refusal_ending-cause.result)) c.now.view_is
    ∙ ap (λ (e : Ending). moved_to now kept (Undoing 0 e)) c.refusal_ending-cause.ensures)
