use Rattle.std.proofs.Common.{arith, sym, ◌∙◌}
use Rattle.hy_value.proofs.Columns.{values_more}
use Rattle.hy_value.proofs.row_buffer.RowBuffer.to_row.Goals as goal

pub loop-column-preserved : goal.loop-column-preserved
loop-column-preserved c =
    rw (c.in_ok-push.ensures.items, c.loop-column.invariant)
    (sym (values_more c.args.self.now.values c.loop-column.column c.to_value.result (omega arith) (c.to_value.ensures ∙ c.refer.ensures _)))
