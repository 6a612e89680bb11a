use Rattle.std.proofs.Common.{sym, ◌∙◌, arith}
use Rattle.hy_chunk.proofs.Setting.{range_step}
use Rattle.hy_chunk.proofs.writes.is_in_range.Goals as goal

pub loop-set-preserved : goal.loop-set-preserved
loop-set-preserved c =
    range_step c.args.sets.now c.args.row.now c.set-item.result c.loop-set.set-index (omega (arith, c.loop-set-test.true)) c.set-item.is
    (sym c.is_out_of_range.ensures ∙ c.if-is_out_of_range.false)
    ∙ c.loop-set.invariant
