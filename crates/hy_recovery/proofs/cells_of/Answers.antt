use Rattle.std.proofs.Common.{slice_get, arith}
use Rattle.std.proofs.lemmas.List.FromFn.{map-range_with_len_more}
use Rattle.hy_recovery.proofs.cells_of.Goals as goal

pub loop-pos-preserved : goal.loop-pos-preserved
loop-pos-preserved c =
    let more = map-range_with_len_more (slice_get c.args.rows.now) 0 c.loop-pos.pos c.loop-pos.pos (omega arith) in
    cc (c.in_ok-push.ensures.ok, c.in_ok-cell_at.ensures)
