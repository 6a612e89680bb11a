use Rattle.std.proofs.Common.{◌≡◌, true, Some, is_some, ap, subst, sym}
use Rattle.hy_script.specs.declared.Options.{Options}
use Rattle.hy_service.specs.Knowing.{ServerData}
use Rattle.hy_service.specs.Logging.{KeepsUp, LogsServing}
use Rattle.hy_service.specs.Serves.{Serves}
use Rattle.hy_top.proofs.serving.serve_on_log.Goals as goal

pub serve-status-requires-clause-kept : goal.serve-status-requires-clause-kept
serve-status-requires-clause-kept g c =
    subst (λ (s : ServerData). KeepsUp g.D.Disk.image s c.args.disk.now) (sym c.new-server.ensures.fresh) c.requires.log

pub returns-clause-serves : goal.returns-clause-serves
returns-clause-serves g c =
    subst (λ (s : ServerData). Serves s.options (g.R.Source.rest c.args.source.now) (g.R.Source.rest c.serve-status.new.source)
    (g.W.Sink.written c.args.sink.now) (g.W.Sink.written c.serve-status.new.sink) c.serve-status.result.status c.serve-status.result.outcome)
    c.new-server.ensures.fresh c.serve-status.ensures.serves

pub returns-clause-logged : goal.returns-clause-logged
returns-clause-logged g c =
    let d = g.D.Disk in
    subst (λ (s : ServerData). LogsServing d.clock d.image d.image_since s.options (g.R.Source.rest c.args.source.now)
    (g.R.Source.rest c.serve-status.new.source) c.serve-status.result.status c.serve-status.result.outcome c.args.disk.now c.serve-status.new.disk)
    c.new-server.ensures.fresh (c.serve-status.ensures.logged (ap (λ (s : ServerData). is_some s.log) c.new-server.ensures.fresh))
