use Rattle.std.proofs.Common.{Err, ap, inl, inr, refl}
use Rattle.std.proofs.Math.Logic.{⊎_elim}
use Rattle.hy_top.specs.Program.{scheduled}
use Rattle.hy_top.proofs.Answering.{leaves_own, leaves_still}
use Rattle.hy_top.proofs.Logging.{writes_so, found_some, leaves_cut, leaves_kept_of, gave_up}
use Rattle.hy_top.proofs.logs.run_logged.Goals as goal

pub returns-in-Ok-clause-leaves : goal.returns-in-Ok-clause-leaves
returns-in-Ok-clause-leaves g c =
    let d = g.D.Disk in
    let threads = c.args.mode.threads in
    let laws = g.met.D.Disk g.world.𝓛 g.world.𝓜 g.world.𝓡 ((λ s x. x), (λ x. x), (λ x. x), λ x. x) in
    leaves_kept_of d.held d.clock d.image d.image_since laws.now_alone threads c.args.script _ _ c.args.disk.now c.create.new.disk
    c.run_on_log.new.disk _ c.in-Ok.ensures.begun c.in-Ok.ensures.logs
    c.run_on_log.ensures.keeps (gave_up threads c.args.script c.run_on_log.result.status c.run_on_log.result.outcome
    (g.W.Sink.written c.args.sink.now) (g.W.Sink.written c.run_on_log.new.sink) (⊎_elim (λ p. inl (p.0, p.2)) (λ r. inr r) c.run_on_log.ensures.run))

pub returns-in-Err-NotEmpty-clause-run : goal.returns-in-Err-NotEmpty-clause-run
returns-in-Err-NotEmpty-clause-run g c =
    let found = found_some (g.D.Disk.held c.args.disk.now) (c.in-Err-NotEmpty.ensures.not_empty (ap Err c.in-Err-NotEmpty.field-0-is)) in
    inr (inr (record {
      found = found.0;
      own = found.1;
      some = found.2;
      nothing_is_run = c.without_outcome.ensures.nothing;
      writes = writes_so 7 c.write.result _ _ _ _ _ c.without_outcome.ensures.status refl c.write.ensures.writes;
    }))

pub returns-in-Err-NotEmpty-clause-leaves : goal.returns-in-Err-NotEmpty-clause-leaves
returns-in-Err-NotEmpty-clause-leaves g c =
    let d = g.D.Disk in
    leaves_still d.held d.clock d.image d.image_since c.args.mode.threads c.args.script _ _ _ _ c.without_outcome.ensures.nothing (record {
      reads = c.in-Err-NotEmpty.ensures.as_it_was (ap Err c.in-Err-NotEmpty.field-0-is);
      stays = c.in-Err-NotEmpty.ensures.untouched (ap Err c.in-Err-NotEmpty.field-0-is);
    })

pub returns-in-Err-DiskFault-clause-leaves : goal.returns-in-Err-DiskFault-clause-leaves
returns-in-Err-DiskFault-clause-leaves g c =
    let d = g.D.Disk in
    leaves_own d.held d.clock d.image d.image_since c.args.mode.threads c.args.script _ _ _ _ c.without_outcome-in-Err-DiskFault.ensures.nothing
    (leaves_cut d.held d.clock d.image d.image_since (scheduled c.args.script c.args.script.schedule) _ _ _ _
    c.without_outcome-in-Err-DiskFault.ensures.status c.without_outcome-in-Err-DiskFault.ensures.nothing
    (c.in-Err-DiskFault.ensures.cut (ap Err c.in-Err-DiskFault.field-0-is)))
