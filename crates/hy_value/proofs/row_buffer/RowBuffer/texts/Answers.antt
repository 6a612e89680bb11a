use Rattle.std.proofs.Common.{arith, ◌≤◌}
use Rattle.hy_value.specs.Refs.{referred}
use Rattle.hy_value.specs.Cells.{text_count}
use Rattle.hy_value.proofs.Columns.{texts_more, count_small}
use Rattle.hy_value.proofs.row_buffer.RowBuffer.texts.Goals as goal

pub loop-column-preserved : goal.loop-column-preserved
loop-column-preserved c =
    let small : text_count (referred c.refer.result) ≤ 1 = count_small (referred c.refer.result) in
    record {
      counted = rw (texts_more c.args.self.now.values c.loop-column.column (referred c.refer.result) (omega arith) (c.refer.ensures _)) (omega arith);
      below = omega arith;
    }
