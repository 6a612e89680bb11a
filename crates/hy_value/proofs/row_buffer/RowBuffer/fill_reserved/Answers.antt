use Rattle.std.proofs.Common.{arith, ◌≡◌, ◌+◌, ◌≤◌, take, sym}
use Rattle.hy_value.specs.Refs.{referred}
use Rattle.hy_value.specs.Cells.{texts_in, text_count}
use Rattle.hy_value.proofs.Columns.{texts_more, texts_in_front, values_more, stands_at}
use Rattle.hy_value.proofs.row_buffer.RowBuffer.fill_reserved.Goals as goal

pub push_reserved-requires-clause-texts : goal.push_reserved-requires-clause-texts
push_reserved-requires-clause-texts c =
    let values = c.args.values.now in
    let i = c.loop-value.value-index in
    let value = referred c.refer.result in
    let at = stands_at values i _ value c.loop-value-test.true c.value-item.is c.refer.ensures in
    let more : texts_in (take (i + 1) values) ≡ texts_in (take i values) + text_count value = texts_more values i value c.loop-value-test.true at in
    let front : texts_in (take (i + 1) values) ≤ texts_in values = texts_in_front values (i + 1) in
    omega arith

pub loop-value-preserved : goal.loop-value-preserved
loop-value-preserved c =
    let values = c.args.values.now in
    let i = c.loop-value.value-index in
    let value = referred c.refer.result in
    let at = stands_at values i _ value c.loop-value-test.true c.value-item.is c.refer.ensures in
    rw c.push_reserved.ensures (record {
      values = rw c.loop-value.invariant.values (sym (values_more values i value c.loop-value-test.true at));
      room = c.loop-value.invariant.room;
      texts = c.loop-value.invariant.texts;
      used = rw c.loop-value.invariant.used (sym (texts_more values i value c.loop-value-test.true at));
    })
