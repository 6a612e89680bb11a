use Rattle.std.proofs.Common.{◌∙◌}
use Rattle.hy_redo.proofs.Appending.{seen_moments}
use Rattle.hy_redo.proofs.log.append_batch.Goals as goal

pub returns-in_err-log-inside-clause-moments : goal.returns-in_err-log-inside-clause-moments
returns-in_err-log-inside-clause-moments g c =
    let d = g.D.Disk in
    seen_moments d.clock (d.image c.args.disk.now) d.image_since c.args.disk.now c.append_at.new.disk
    (c.as_slice.ensures.value ∙ c.batch.view_is) c.log.view_is c.append_at.ensures.moments

pub returns-clause-moments : goal.returns-clause-moments
returns-clause-moments g c =
    let d = g.D.Disk in
    seen_moments d.clock (d.image c.args.disk.now) d.image_since c.args.disk.now c.append_at.new.disk
    (c.as_slice.ensures.value ∙ c.batch.view_is) c.log.view_is c.append_at.ensures.moments
