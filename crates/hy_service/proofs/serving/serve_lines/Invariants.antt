use Rattle.std.proofs.Common.{◌≡◌, ◌+◌, ◌≤◌, is_some, length}
use Rattle.hy_limits.specs.declared.TheConstants.{MOST_BYTES}
use Rattle.hy_service.specs.Logging.{KeepsUp, LogsLines}
use Rattle.hy_service.specs.Loops.{HasServed}
use Rattle.hy_service.proofs.serving.serve_lines.Given as goal

-- all lines so far were served, and each of them took a byte at least; the log keeps up with them
abbrev pub invariant-turns : goal.invariant-turns
invariant-turns g l =
    let d = g.D.Disk in
    record {
      so_far : HasServed l.fn.server.options (g.R.Source.rest l.fn.source) (g.R.Source.rest l.source)
          (g.W.Sink.written l.fn.sink) (g.W.Sink.written l.sink) (LogsLines d.clock d.image_since l.fn.server.options l.fn.disk l.disk) l.lines l.server;
      kept : KeepsUp d.image l.server l.disk;
      stays : is_some l.server.log ≡ is_some l.fn.server.log;
      took : l.counter + length l.lines.kept ≤ l.lines.taken;
      turns : l.counter ≤ MOST_BYTES + 1;
      source_steady : g.R.Source.faults l.source ≡ g.R.Source.faults l.fn.source;
      sink_steady : g.W.Sink.faults l.sink ≡ g.W.Sink.faults l.fn.sink;
      disk_steady : d.faults l.disk ≡ d.faults l.fn.disk;
    }
