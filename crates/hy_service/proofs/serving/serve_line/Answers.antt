use Rattle.hy_service.proofs.Loops.{LinesAreGiven, took_a_byte, line_goes_on, at_end, at_limit, at_fault, at_want}
use Rattle.hy_service.proofs.LoggedLines.{line_more}
use Rattle.hy_service.specs.Logging.{LogsLines}
use Rattle.hy_service.proofs.serving.serve_line.Goals as goal

pub returns-in-Ok-Line-clause-goes_on : goal.returns-in-Ok-Line-clause-goes_on
returns-in-Ok-Line-clause-goes_on g c = λ options first before start so.
    let d = g.D.Disk in
    let givens : LinesAreGiven = record {
      goes_on = c.lines_are_given.ensures.goes_on;
      end = c.lines_are_given.ensures.end;
      whole = c.lines_are_given.ensures.whole;
      stand = c.lines_stand_first.ensures.whole;
    } in
    line_goes_on c.lines_are_heard.ensures givens options first (g.R.Source.rest c.args.source.now) before (g.W.Sink.written c.args.sink.now)
    (LogsLines d.clock d.image_since options start c.args.disk.now) (LogsLines d.clock d.image_since options start c.answer_line.new.disk) c.args.lines.now
    c.args.server.now so (g.R.Source.rest c.next_line.new.source) c.next_line.new.self c.next_line.ensures.limit c.in-Ok-Line.line
    (rw c.in-Ok-Line.field-0-is at c.in-Ok-Line.ensures.heard) c.answer_line.new.server (g.W.Sink.written c.answer_line.new.sink) c.answer_line.result
    c.answer_line.ensures.options (rw c.as_slice.ensures.value at c.answer_line.ensures.hears)
    (λ lines knows was. line_more d.clock d.image_since options c.args.server.now.options start c.args.disk.now c.answer_line.new.disk lines
    c.in-Ok-Line.line.items so.options_are was ((rw c.as_slice.ensures.value at c.answer_line.ensures.logs) lines knows))

pub returns-in-Ok-Line-clause-took : goal.returns-in-Ok-Line-clause-took
returns-in-Ok-Line-clause-took g c = λ none.
    took_a_byte (g.R.Source.rest c.args.source.now) (g.R.Source.rest c.next_line.new.source) c.args.lines.now c.next_line.new.self c.in-Ok-Line.line
    (rw c.in-Ok-Line.field-0-is at c.in-Ok-Line.ensures.heard)

pub returns-in-Ok-End-clause-goes_on : goal.returns-in-Ok-End-clause-goes_on
returns-in-Ok-End-clause-goes_on g c = λ options first before start so.
    let d = g.D.Disk in
    let givens : LinesAreGiven = record {
      goes_on = c.lines_are_given.ensures.goes_on;
      end = c.lines_are_given.ensures.end;
      whole = c.lines_are_given.ensures.whole;
      stand = c.lines_stand_first.ensures.whole;
    } in
    at_end c.lines_are_heard.ensures givens options first (g.R.Source.rest c.args.source.now) before (g.W.Sink.written c.args.sink.now)
    (LogsLines d.clock d.image_since options start c.args.disk.now) (LogsLines d.clock d.image_since options start c.args.disk.now) c.args.lines.now
    c.args.server.now so (g.R.Source.rest c.next_line.new.source) c.next_line.new.self c.next_line.ensures.limit
    (rw c.in-Ok-End.field-0-is at c.in-Ok-End.ensures.heard) so.logs

pub returns-in-Ok-TooLong-clause-goes_on : goal.returns-in-Ok-TooLong-clause-goes_on
returns-in-Ok-TooLong-clause-goes_on g c = λ options first before start so.
    let d = g.D.Disk in
    let givens : LinesAreGiven = record {
      goes_on = c.lines_are_given.ensures.goes_on;
      end = c.lines_are_given.ensures.end;
      whole = c.lines_are_given.ensures.whole;
      stand = c.lines_stand_first.ensures.whole;
    } in
    at_limit c.lines_are_heard.ensures givens options first (g.R.Source.rest c.args.source.now) before (g.W.Sink.written c.args.sink.now)
    (LogsLines d.clock d.image_since options start c.args.disk.now) (LogsLines d.clock d.image_since options start c.args.disk.now) c.args.lines.now
    c.args.server.now so (g.R.Source.rest c.next_line.new.source) c.next_line.new.self c.next_line.ensures.limit
    (rw c.in-Ok-TooLong.field-0-is at c.in-Ok-TooLong.ensures.heard) so.logs

pub returns-in-Err-ReadFault-clause-goes_on : goal.returns-in-Err-ReadFault-clause-goes_on
returns-in-Err-ReadFault-clause-goes_on g c = λ options first before start so.
    let d = g.D.Disk in
    let givens : LinesAreGiven = record {
      goes_on = c.lines_are_given.ensures.goes_on;
      end = c.lines_are_given.ensures.end;
      whole = c.lines_are_given.ensures.whole;
      stand = c.lines_stand_first.ensures.whole;
    } in
    at_fault c.lines_are_heard.ensures givens options first (g.R.Source.rest c.args.source.now) before (g.W.Sink.written c.args.sink.now)
    (LogsLines d.clock d.image_since options start c.args.disk.now) (LogsLines d.clock d.image_since options start c.args.disk.now) c.args.lines.now
    c.args.server.now so (g.R.Source.rest c.next_line.new.source) c.next_line.new.self c.next_line.ensures.limit
    (rw c.in-Err-ReadFault.field-0-is at c.in-Err-ReadFault.ensures.heard) so.logs

pub returns-in-Err-OutOfMemory-clause-goes_on : goal.returns-in-Err-OutOfMemory-clause-goes_on
returns-in-Err-OutOfMemory-clause-goes_on g c = λ options first before start so.
    let d = g.D.Disk in
    let givens : LinesAreGiven = record {
      goes_on = c.lines_are_given.ensures.goes_on;
      end = c.lines_are_given.ensures.end;
      whole = c.lines_are_given.ensures.whole;
      stand = c.lines_stand_first.ensures.whole;
    } in
    at_want c.lines_are_heard.ensures givens options first (g.R.Source.rest c.args.source.now) before (g.W.Sink.written c.args.sink.now)
    (LogsLines d.clock d.image_since options start c.args.disk.now) (LogsLines d.clock d.image_since options start c.args.disk.now) c.args.lines.now
    c.args.server.now so (g.R.Source.rest c.next_line.new.source) c.next_line.new.self c.next_line.ensures.limit
    (rw c.in-Err-OutOfMemory.field-0-is at c.in-Err-OutOfMemory.ensures.heard) so.logs
