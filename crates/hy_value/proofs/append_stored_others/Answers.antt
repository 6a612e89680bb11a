use Rattle.std.proofs.Common.{arith}
use Rattle.hy_value.proofs.Buffers.{begins_behind}
use Rattle.hy_value.proofs.PrintedColumns.{printed_more}
use Rattle.hy_value.proofs.append_stored_others.Goals as goal

pub returns-in_err-append-clause-begun : goal.returns-in_err-append-clause-begun
returns-in_err-append-clause-begun c =
    begins_behind c.args.out.now.items _ _ c.loop-before.out.items c.push.new.self.items _ c.loop-before.invariant c.in_ok-push.ensures.items c.append.ensures.begun

pub loop-before-preserved : goal.loop-before-preserved
loop-before-preserved c =
    printed_more c.args.out.now.items _ _ _ c.args.row.now c.loop-before.before _ (omega arith) (c.refer.ensures _)
    c.loop-before.invariant c.in_ok-push.ensures.items c.in_ok-append.ensures.ok
