use Rattle.std.proofs.Common.{◌∙◌, List, ℕ, [], refl}
use Rattle.std.specs.Prelude.{codes}
use Rattle.hy_service.specs.Logging.{LogsLines}
use Rattle.hy_service.proofs.LoggedLines.{ended_given, not_done, log_cut, log_end, log_limit, logs_none}
use Rattle.hy_service.proofs.Stops.{serve_cut, serve_end, serve_fault, serve_limit, serve_lost, serve_want}
use Rattle.hy_service.specs.declared.serving.Stop.TheVariants.{ReadFault, DiskFault, OutOfMemory}
use Rattle.hy_service.proofs.serving.serve_lent.Goals as goal

pub returns-in-End-clause-serves : goal.returns-in-End-clause-serves
returns-in-End-clause-serves g c =
    let d = g.D.Disk in
    serve_end c.lines_are_heard.ensures c.outcomes_are_lawful.ensures c.args.server.now.options c.requires.knows.sized c.args.server.now.options refl
    (g.R.Source.rest c.args.source.now) (g.R.Source.rest c.serve_lines.new.source) (g.W.Sink.written c.args.sink.now)
    (LogsLines d.clock d.image_since c.args.server.now.options c.args.disk.now c.serve_lines.new.disk) c.serve_lines.new.server g.W.Sink.written
    c.serve_lines.new.sink c.end.new.sink c.end.result.status c.end.result.outcome c.in-End.ensures.stopped c.end.ensures.ends

pub returns-in-TooLong-clause-serves : goal.returns-in-TooLong-clause-serves
returns-in-TooLong-clause-serves g c =
    let d = g.D.Disk in
    serve_limit c.lines_are_heard.ensures c.outcomes_are_lawful.ensures c.args.server.now.options c.requires.knows.sized c.args.server.now.options refl
    (g.R.Source.rest c.args.source.now) (g.R.Source.rest c.serve_lines.new.source) (g.W.Sink.written c.args.sink.now)
    (LogsLines d.clock d.image_since c.args.server.now.options c.args.disk.now c.serve_lines.new.disk) c.serve_lines.new.server g.W.Sink.written
    c.serve_lines.new.sink c.end-in-TooLong.new.sink c.end-in-TooLong.result.status c.end-in-TooLong.result.outcome c.in-TooLong.ensures.stopped c.end-in-TooLong.ensures.ends

pub returns-in-ReadFault-clause-serves : goal.returns-in-ReadFault-clause-serves
returns-in-ReadFault-clause-serves g c =
    let d = g.D.Disk in
    serve_fault c.lines_are_heard.ensures c.outcomes_are_lawful.ensures c.args.server.now.options c.requires.knows.sized c.args.server.now.options refl
    (g.R.Source.rest c.args.source.now) (g.R.Source.rest c.serve_lines.new.source) (g.W.Sink.written c.args.sink.now)
    (LogsLines d.clock d.image_since c.args.server.now.options c.args.disk.now c.serve_lines.new.disk) c.serve_lines.new.server
    (g.W.Sink.written c.serve_lines.new.sink) c.without_outcome.result.outcome c.in-ReadFault.ensures.stopped c.without_outcome.ensures.nothing c.without_outcome.result.status
    c.without_outcome.ensures.status

pub returns-in-ReadFault-clause-logged : goal.returns-in-ReadFault-clause-logged
returns-in-ReadFault-clause-logged g c = λ some.
    let d = g.D.Disk in
    logs_none d.clock d.image d.image_since c.args.server.now.options
    (g.R.Source.rest c.args.source.now) (g.R.Source.rest c.serve_lines.new.source) (g.W.Sink.written c.args.sink.now)
    (g.W.Sink.written c.serve_lines.new.sink) c.args.disk.now c.serve_lines.new.disk c.serve_lines.new.server ReadFault c.in-ReadFault.ensures.stopped
    c.without_outcome.result.status c.without_outcome.result.outcome c.without_outcome.ensures.nothing

pub returns-in-DiskFault-clause-serves : goal.returns-in-DiskFault-clause-serves
returns-in-DiskFault-clause-serves g c =
    let d = g.D.Disk in
    serve_lost c.lines_are_heard.ensures c.outcomes_are_lawful.ensures c.args.server.now.options c.requires.knows.sized c.args.server.now.options refl
    (g.R.Source.rest c.args.source.now) (g.R.Source.rest c.serve_lines.new.source) (g.W.Sink.written c.args.sink.now)
    (LogsLines d.clock d.image_since c.args.server.now.options c.args.disk.now c.serve_lines.new.disk) c.serve_lines.new.server
    (g.W.Sink.written c.serve_lines.new.sink) c.without_outcome-in-DiskFault.result.outcome c.in-DiskFault.ensures.stopped c.without_outcome-in-DiskFault.ensures.nothing c.without_outcome-in-DiskFault.result.status
    c.without_outcome-in-DiskFault.ensures.status

pub returns-in-DiskFault-clause-logged : goal.returns-in-DiskFault-clause-logged
returns-in-DiskFault-clause-logged g c = λ some.
    let d = g.D.Disk in
    logs_none d.clock d.image d.image_since c.args.server.now.options
    (g.R.Source.rest c.args.source.now) (g.R.Source.rest c.serve_lines.new.source) (g.W.Sink.written c.args.sink.now)
    (g.W.Sink.written c.serve_lines.new.sink) c.args.disk.now c.serve_lines.new.disk c.serve_lines.new.server DiskFault c.in-DiskFault.ensures.stopped
    c.without_outcome-in-DiskFault.result.status c.without_outcome-in-DiskFault.result.outcome c.without_outcome-in-DiskFault.ensures.nothing

pub returns-in-OutOfMemory-clause-serves : goal.returns-in-OutOfMemory-clause-serves
returns-in-OutOfMemory-clause-serves g c =
    let d = g.D.Disk in
    serve_want c.lines_are_heard.ensures c.outcomes_are_lawful.ensures c.args.server.now.options c.requires.knows.sized c.args.server.now.options refl
    (g.R.Source.rest c.args.source.now) (g.R.Source.rest c.serve_lines.new.source) (g.W.Sink.written c.args.sink.now)
    (LogsLines d.clock d.image_since c.args.server.now.options c.args.disk.now c.serve_lines.new.disk) c.serve_lines.new.server
    (g.W.Sink.written c.serve_lines.new.sink) c.without_outcome-in-OutOfMemory.result.outcome c.in-OutOfMemory.ensures.stopped c.without_outcome-in-OutOfMemory.ensures.nothing c.without_outcome-in-OutOfMemory.result.status
    c.without_outcome-in-OutOfMemory.ensures.status

pub returns-in-OutOfMemory-clause-logged : goal.returns-in-OutOfMemory-clause-logged
returns-in-OutOfMemory-clause-logged g c = λ some.
    let d = g.D.Disk in
    logs_none d.clock d.image d.image_since c.args.server.now.options
    (g.R.Source.rest c.args.source.now) (g.R.Source.rest c.serve_lines.new.source) (g.W.Sink.written c.args.sink.now)
    (g.W.Sink.written c.serve_lines.new.sink) c.args.disk.now c.serve_lines.new.disk c.serve_lines.new.server OutOfMemory c.in-OutOfMemory.ensures.stopped
    c.without_outcome-in-OutOfMemory.result.status c.without_outcome-in-OutOfMemory.result.outcome c.without_outcome-in-OutOfMemory.ensures.nothing

pub returns-in-WriteFault-clause-serves : goal.returns-in-WriteFault-clause-serves
returns-in-WriteFault-clause-serves g c =
    let d = g.D.Disk in
    serve_cut c.lines_are_heard.ensures c.outcomes_are_lawful.ensures c.args.server.now.options c.requires.knows.sized c.args.server.now.options refl
    (g.R.Source.rest c.args.source.now) (g.R.Source.rest c.serve_lines.new.source) (g.W.Sink.written c.args.sink.now)
    (LogsLines d.clock d.image_since c.args.server.now.options c.args.disk.now c.serve_lines.new.disk) c.serve_lines.new.server
    (g.W.Sink.written c.serve_lines.new.sink) c.ok.result c.in-WriteFault.ensures.stopped c.close.result c.ok.ensures.value c.close.ensures.outcome

pub returns-in-WriteFault-clause-logged : goal.returns-in-WriteFault-clause-logged
returns-in-WriteFault-clause-logged g c = λ some.
    let d = g.D.Disk in
    log_cut d.clock d.image d.image_since c.logs_tell_outcomes.ensures c.args.server.now.options
    (g.R.Source.rest c.args.source.now) (g.R.Source.rest c.serve_lines.new.source) (g.W.Sink.written c.args.sink.now)
    (g.W.Sink.written c.serve_lines.new.sink) c.args.disk.now c.serve_lines.new.disk c.serve_lines.new.server (c.serve_lines.ensures.stays ∙ some)
    c.in-WriteFault.ensures.kept c.in-WriteFault.ensures.stopped c.close.result c.ok.result c.ok.ensures.value c.close.ensures.outcome

pub returns-in-End-clause-logged : goal.returns-in-End-clause-logged
returns-in-End-clause-logged g c = λ some.
    let d = g.D.Disk in
    log_end d.clock d.image d.image_since c.logs_tell_outcomes.ensures c.args.server.now.options
    (g.R.Source.rest c.args.source.now) (g.R.Source.rest c.serve_lines.new.source) (g.W.Sink.written c.args.sink.now)
    (g.W.Sink.written c.serve_lines.new.sink) c.args.disk.now c.serve_lines.new.disk c.serve_lines.new.server (c.serve_lines.ensures.stays ∙ some)
    c.in-End.ensures.kept c.in-End.ensures.stopped c.end.result.status c.end.result.outcome (λ lines knows.
    ended_given g.W.Sink.written c.args.server.now.options c.serve_lines.new.server.options lines [] 0 c.serve_lines.new.sink c.end.new.sink
    c.end.result.status c.end.result.outcome c.in-End.ensures.stopped.options_are (c.end.ensures.ends lines knows))

pub returns-in-TooLong-clause-logged : goal.returns-in-TooLong-clause-logged
returns-in-TooLong-clause-logged g c = λ some.
    let d = g.D.Disk in
    let statuses = c.end-in-TooLong.ensures.statuses in
    log_limit d.clock d.image d.image_since c.logs_tell_outcomes.ensures c.args.server.now.options
    (g.R.Source.rest c.args.source.now) (g.R.Source.rest c.serve_lines.new.source) (g.W.Sink.written c.args.sink.now)
    (g.W.Sink.written c.serve_lines.new.sink) c.args.disk.now c.serve_lines.new.disk c.serve_lines.new.server (c.serve_lines.ensures.stays ∙ some)
    c.in-TooLong.ensures.kept c.in-TooLong.ensures.stopped c.end-in-TooLong.result.status c.end-in-TooLong.result.outcome (not_done c.end-in-TooLong.result.status statuses) (λ lines knows.
    ended_given g.W.Sink.written c.args.server.now.options c.serve_lines.new.server.options lines (codes "refused E01\n") 2 c.serve_lines.new.sink
    c.end-in-TooLong.new.sink c.end-in-TooLong.result.status c.end-in-TooLong.result.outcome c.in-TooLong.ensures.stopped.options_are
    (c.end-in-TooLong.ensures.ends lines knows))

-- ---- faults

pub returns-in-ReadFault-clause-read_fault : goal.returns-in-ReadFault-clause-read_fault
returns-in-ReadFault-clause-read_fault g c = λ three. c.serve_lines.ensures.read_fault c.in-ReadFault.is

pub returns-in-DiskFault-clause-disk_fault : goal.returns-in-DiskFault-clause-disk_fault
returns-in-DiskFault-clause-disk_fault g c = λ six. c.serve_lines.ensures.disk_fault c.in-DiskFault.is
