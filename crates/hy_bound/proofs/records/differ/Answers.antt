use Rattle.std.proofs.Common.{arith, sym, ◌∙◌}
use Rattle.hy_bound.proofs.Differences.{differ_here, differ_later, differ_ended}
use Rattle.hy_bound.proofs.records.differ.Goals as goal

pub returns-then-column-len : goal.returns-then-column-len
returns-then-column-len c =
    sym (c.loop-column.invariant ∙ differ_ended c.args.columns c.loop-column.column c.args.before.now c.args.after.now c.loop-column.column (omega arith))

pub returns-then-differ_at : goal.returns-then-differ_at
returns-then-differ_at c =
    sym (c.loop-column.invariant
    ∙ differ_here c.args.columns c.args.before.now c.args.after.now c.loop-column.column _ _ _ (omega arith) (omega arith) (c.refer.ensures _) (c.refer-in-loop-column.ensures _) c.differ_at.ensures (cc))

pub loop-column-preserved : goal.loop-column-preserved
loop-column-preserved c =
    c.loop-column.invariant
    ∙ differ_later c.args.columns c.args.before.now c.args.after.now c.loop-column.column _ _ _ (omega arith) (omega arith) (c.refer.ensures _) (c.refer-in-loop-column.ensures _) c.differ_at.ensures (cc)
