use Rattle.std.proofs.Common.{List, ℕ, Err, subst, ap, inl, inr}
use Rattle.hy_top.specs.Reports.{Answers, Leaves}
use Rattle.hy_top.proofs.Answering.{read_whole, answered_whole, answered_cut, answered_nothing}
use Rattle.hy_top.proofs.Logging.{same_syncs}
use Rattle.hy_top.proofs.run_command.Goals as goal

pub returns-in-Ok-clause-bytes : goal.returns-in-Ok-clause-bytes
returns-in-Ok-clause-bytes g c = read_whole _ _ _ c.in-Ok.bytes.items c.in-Ok.ensures.whole c.in-Ok.ensures.at_most

pub returns-in-Ok-clause-answers : goal.returns-in-Ok-clause-answers
returns-in-Ok-clause-answers g c =
    let d = g.D.Disk in
    let command = c.args.command in
    let report = c.answer.result in
    inr (answered_whole d.held d.clock d.image d.image_since command _ _ report.status report.outcome _ _ _ _ c.in-Ok.bytes.items
    c.in-Ok.ensures.whole c.in-Ok.ensures.at_most
    (subst (λ (b : List ℕ). Answers command b (d.held c.args.disk.now) report.status report.outcome (g.W.Sink.written c.args.sink.now)
    (g.W.Sink.written c.answer.new.sink)) c.as_slice.ensures.value c.answer.ensures.answers)
    (λ keeps. subst (λ (b : List ℕ). Leaves d.held d.clock d.image d.image_since command b report.status report.outcome c.args.disk.now c.answer.new.disk)
    c.as_slice.ensures.value (c.answer.ensures.leaves keeps)))

pub returns-in-Err-TooLong-clause-answers : goal.returns-in-Err-TooLong-clause-answers
returns-in-Err-TooLong-clause-answers g c =
    let d = g.D.Disk in
    inr (answered_cut d.held d.clock d.image d.image_since c.args.command _ _ _ _ _ _ _ c.read_once.ensures
    (c.in-Err-TooLong.ensures.too_long (ap Err c.in-Err-TooLong.field-0-is)) c.refuse.ensures.writes c.refuse.ensures.nothing)

pub returns-in-Err-TooLong-clause-syncs : goal.returns-in-Err-TooLong-clause-syncs
returns-in-Err-TooLong-clause-syncs g c =
    let d = g.D.Disk in
    λ other. same_syncs d.held d.clock d.image d.image_since c.args.disk.now

pub returns-in-Err-ReadFault-clause-syncs : goal.returns-in-Err-ReadFault-clause-syncs
returns-in-Err-ReadFault-clause-syncs g c =
    let d = g.D.Disk in
    λ other. same_syncs d.held d.clock d.image d.image_since c.args.disk.now

pub returns-in-Err-ReadFault-clause-answers : goal.returns-in-Err-ReadFault-clause-answers
returns-in-Err-ReadFault-clause-answers g c = inl c.without_outcome.ensures.status

pub returns-in-Err-OutOfMemory-clause-answers : goal.returns-in-Err-OutOfMemory-clause-answers
returns-in-Err-OutOfMemory-clause-answers g c =
    let d = g.D.Disk in
    inr (answered_nothing d.held d.clock d.image d.image_since c.args.command _ _ _ _ _ _ c.without_outcome-in-Err-OutOfMemory.ensures.status
    c.without_outcome-in-Err-OutOfMemory.ensures.nothing)

pub returns-in-Err-OutOfMemory-clause-syncs : goal.returns-in-Err-OutOfMemory-clause-syncs
returns-in-Err-OutOfMemory-clause-syncs g c =
    let d = g.D.Disk in
    λ other. same_syncs d.held d.clock d.image d.image_since c.args.disk.now
