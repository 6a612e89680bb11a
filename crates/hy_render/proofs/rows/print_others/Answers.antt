use Rattle.std.proofs.Common.{arith}
use Rattle.hy_render.proofs.Buffers.{begins_from}
use Rattle.hy_render.proofs.PrintedRows.{printed_more}
use Rattle.hy_render.proofs.rows.print_others.Goals as goal

pub loop-before-preserved : goal.loop-before-preserved
loop-before-preserved c =
    printed_more c.args.out.now.items _ _ _ c.args.row.now c.loop-before.before _ (omega arith) (c.refer.ensures _)
    c.loop-before.invariant c.in_ok-put.ensures.ok c.in_ok-print_value.ensures.ok

pub returns-in_err-put-clause-begun : goal.returns-in_err-put-clause-begun
returns-in_err-put-clause-begun c = begins_from _ _ _ _ c.loop-before.invariant c.put.ensures.begun

pub returns-in_err-print_value-clause-begun : goal.returns-in_err-print_value-clause-begun
returns-in_err-print_value-clause-begun c =
    begins_from _ _ _ _ c.loop-before.invariant (begins_from _ _ _ _ c.in_ok-put.ensures.ok c.print_value.ensures.begun)
