use Rattle.std.proofs.Common.{arith, ◌≡◌, ◌+◌, ◌≤◌, take, sym}
use Rattle.hy_value.specs.Refs.{referred}
use Rattle.hy_value.specs.Cells.{texts_in, text_count}
use Rattle.hy_value.proofs.Columns.{texts_more, texts_in_front, values_more}
use Rattle.hy_value.proofs.row_buffer.RowBuffer.copy_into.Goals as goal

pub push_reserved-requires-clause-texts : goal.push_reserved-requires-clause-texts
push_reserved-requires-clause-texts c =
    let more : texts_in (take (c.loop-column.column + 1) c.args.self.now.values) ≡ texts_in (take c.loop-column.column c.args.self.now.values) + text_count (referred c.refer.result)
    = texts_more c.args.self.now.values c.loop-column.column (referred c.refer.result) (omega arith) (c.refer.ensures _) in
    let front : texts_in (take (c.loop-column.column + 1) c.args.self.now.values) ≤ texts_in c.args.self.now.values = texts_in_front c.args.self.now.values (c.loop-column.column + 1) in
    omega arith

pub loop-column-preserved : goal.loop-column-preserved
loop-column-preserved c = rw c.push_reserved.ensures (record {
  values = rw c.loop-column.invariant.values (sym (values_more c.args.self.now.values c.loop-column.column (referred c.refer.result) (omega arith) (c.refer.ensures _)));
  room = c.loop-column.invariant.room;
  texts = c.loop-column.invariant.texts;
  used = rw c.loop-column.invariant.used (sym (texts_more c.args.self.now.values c.loop-column.column (referred c.refer.result) (omega arith) (c.refer.ensures _)));
})
