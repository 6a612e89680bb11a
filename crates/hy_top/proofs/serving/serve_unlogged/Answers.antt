use Rattle.std.proofs.Common.{arith, subst}
use Rattle.hy_service.specs.Knowing.{ServerData}
use Rattle.hy_service.specs.Serves.{Serves}
use Rattle.hy_top.proofs.ServingCalls.{shown_as, shown_is, unlogged}
use Rattle.hy_top.proofs.serving.serve_unlogged.Goals as goal

pub returns-clause-serves : goal.returns-clause-serves
returns-clause-serves g c =
    unlogged c.serve-status.result.status c.without_disk.result c.without_disk.ensures.failed c.without_disk.ensures.other c.args.options
    (g.R.Source.rest c.args.source.now) (g.R.Source.rest c.serve-status.new.source) (g.W.Sink.written c.args.sink.now)
    (g.W.Sink.written c.serve-status.new.sink) c.serve-status.result.outcome
    (subst (λ (s : ServerData). Serves s.options (g.R.Source.rest c.args.source.now) (g.R.Source.rest c.serve-status.new.source)
    (g.W.Sink.written c.args.sink.now) (g.W.Sink.written c.serve-status.new.sink) c.serve-status.result.status c.serve-status.result.outcome)
    c.new-server.ensures.fresh c.serve-status.ensures.serves)

pub returns-clause-read_fault : goal.returns-clause-read_fault
returns-clause-read_fault g c = λ is.
    c.serve-status.ensures.read_fault (shown_is c.serve-status.result.status c.without_disk.result c.without_disk.ensures.failed
    c.without_disk.ensures.other 3 (λ five. omega (arith, five)) is)

pub returns-clause-write_fault : goal.returns-clause-write_fault
returns-clause-write_fault g c = λ is.
    c.serve-status.ensures.write_fault (shown_is c.serve-status.result.status c.without_disk.result c.without_disk.ensures.failed
    c.without_disk.ensures.other 4 (λ five. omega (arith, five)) is)

pub returns-clause-source_steady : goal.returns-clause-source_steady
returns-clause-source_steady g c = λ apart.
    c.serve-status.ensures.source_steady (shown_as c.serve-status.result.status c.without_disk.result c.without_disk.ensures.failed
    c.without_disk.ensures.other 3 (λ six. omega (arith, six)) apart)

pub returns-clause-sink_steady : goal.returns-clause-sink_steady
returns-clause-sink_steady g c = λ apart.
    c.serve-status.ensures.sink_steady (shown_as c.serve-status.result.status c.without_disk.result c.without_disk.ensures.failed
    c.without_disk.ensures.other 4 (λ six. omega (arith, six)) apart)
