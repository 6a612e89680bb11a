use Rattle.std.proofs.Common.{Some}
use Rattle.hy_top.proofs.Logging.{if_err, kept_untold}
use Rattle.hy_top.proofs.logs.logged_text.Goals as goal

pub returns-in_err-render-clause-cut : goal.returns-in_err-render-clause-cut
returns-in_err-render-clause-cut g c =
    let d = g.D.Disk in
    if_err c.from_residual-in_err-render.result _
    (kept_untold d.clock d.image d.image_since c.args.mode.threads c.args.script (Some c.in_ok-outcome.outcome) c.args.disk.now c.logged_outcome.new.disk
    c.in_ok-outcome.ensures.keeps)
