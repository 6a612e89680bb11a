use Rattle.hy_dump.proofs.Pieces.{row_put}
use Rattle.hy_dump.proofs.put_rows.Goals as goal

pub loop-row-preserved : goal.loop-row-preserved
loop-row-preserved c =
    row_put c.args.table.now.name _ _ _ c.args.rows.now c.loop-row.row-index c.row-item.result c.loop-row-test.true c.row-item.is
    c.loop-row.invariant c.in_ok-put_insert.ensures
