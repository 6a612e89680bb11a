use Rattle.std.proofs.Common.{arith}
use Rattle.std.specs.Prelude.{slice_get}
use Rattle.std.proofs.lemmas.List.FromFn.{map-range_with_len_more}
use Rattle.hy_explain.proofs.behind.lay_out.Goals as goal

pub loop-pos-preserved : goal.loop-pos-preserved
loop-pos-preserved c =
    let more = map-range_with_len_more (slice_get c.args.rows.now) 0 c.loop-pos.pos c.loop-pos.pos (omega arith) in
    cc (c.in_ok-push.ensures.ok, c.in_ok-cell_of.ensures)
