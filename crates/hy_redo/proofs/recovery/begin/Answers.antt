use Rattle.std.proofs.Common.{◌≡◌}
use Rattle.hy_redo.proofs.Pieces.{begun}
use Rattle.hy_redo.proofs.recovery.begin.Goals as goal

pub returns-clause-begun : goal.returns-clause-begun
returns-clause-begun c =
    let same : c.into_vec.result.items ≡ c.args.tables = cc c.into_vec.ensures in
    begun c.args.tables c.into_vec.result.items c.args.bytes.now c.in_ok-bytes_behind_header.field-0.now same c.in_ok-bytes_behind_header.ensures
