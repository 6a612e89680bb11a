use Rattle.std.proofs.Common.{arith, sym, ◌∙◌}
use Rattle.hy_value.proofs.RowsFrom.{cmp_shorter}
use Rattle.hy_value.proofs.Columns.{cmp_longer, cmp_decided, cmp_goes_on}
use Rattle.hy_value.proofs.row_buffer.RowBuffer.compare.Goals as goal

pub returns-then-column-len : goal.returns-then-column-len
returns-then-column-len c = sym (c.loop-column.invariant.same ∙ cmp_longer c.args.self.now.values c.args.other.now.values c.loop-column.column (omega arith) (omega arith))

pub returns-then-is_ne : goal.returns-then-is_ne
returns-then-is_ne c =
    cmp_decided c.args.self.now.values c.args.other.now.values c.loop-column.column _ _ _ (omega arith) (omega arith) (c.refer.ensures _) (c.refer-in-loop-column.ensures _) c.compare_refs-order.ensures (cc)
    ∙ sym c.loop-column.invariant.same

pub loop-column-preserved : goal.loop-column-preserved
loop-column-preserved c = record {
  same = c.loop-column.invariant.same
      ∙ cmp_goes_on c.args.self.now.values c.args.other.now.values c.loop-column.column _ _ _ (omega arith) (omega arith) (c.refer.ensures _) (c.refer-in-loop-column.ensures _) c.compare_refs-order.ensures (cc);
  within = omega arith;
}

pub returns-then-len : goal.returns-then-len
returns-then-len c = sym (c.loop-column.invariant.same ∙ cmp_shorter c.args.self.now.values c.args.other.now.values c.loop-column.column (omega arith) (omega arith))
