use Rattle.hy_top.proofs.Logging.{same_syncs}
use Rattle.hy_top.proofs.logs.restored_text.Goals as goal

pub returns-in_err-given-clause-syncs : goal.returns-in_err-given-clause-syncs
returns-in_err-given-clause-syncs g c =
    let d = g.D.Disk in
    same_syncs d.held d.clock d.image d.image_since c.args.disk.now
