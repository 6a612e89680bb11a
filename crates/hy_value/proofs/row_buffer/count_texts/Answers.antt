use Rattle.std.proofs.Common.{arith, ◌≤◌}
use Rattle.hy_value.specs.Refs.{referred}
use Rattle.hy_value.specs.Cells.{text_count}
use Rattle.hy_value.proofs.Columns.{texts_more, count_small, stands_at}
use Rattle.hy_value.proofs.row_buffer.count_texts.Goals as goal

pub loop-value-preserved : goal.loop-value-preserved
loop-value-preserved c =
    let value = referred c.refer.result in
    let low = c.loop-value-test.true in
    let at = stands_at c.args.values.now c.loop-value.value-index _ value low c.value-item.is c.refer.ensures in
    let small : text_count value ≤ 1 = count_small value in
    record {
      counted = rw (texts_more c.args.values.now c.loop-value.value-index value low at) (omega arith);
      below = omega arith;
    }
