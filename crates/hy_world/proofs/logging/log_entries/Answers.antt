use Rattle.std.proofs.Common.{subst}
use Rattle.hy_world.specs.Logged.{IsKept}
use Rattle.hy_world.proofs.Logs.{appended, append_cut}
use Rattle.hy_world.proofs.logging.log_entries.Goals as goal

pub returns-clause-logs : goal.returns-clause-logs
returns-clause-logs g c =
    let d = g.D.Disk in
    λ entries kept.
    appended d.clock d.image_since entries c.args.more.now c.in-Some.log c.args.disk.now c.append.new.disk
    (c.append.ensures.moments entries (subst (λ log. IsKept d.image entries log c.args.disk.now) c.in-Some.is kept))

pub returns-clause-cut : goal.returns-clause-cut
returns-clause-cut g c =
    let d = g.D.Disk in
    λ entries kept.
    append_cut d.clock d.image d.image_since g.met.D.Disk.image_counts entries c.args.more.now c.in-Some.log c.args.disk.now c.append.new.disk
    c.requires.few (c.append.ensures.moments entries (subst (λ log. IsKept d.image entries log c.args.disk.now) c.in-Some.is kept))
