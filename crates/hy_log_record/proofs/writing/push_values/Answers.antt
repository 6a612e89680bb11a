use Rattle.std.proofs.Common.{arith}
use Rattle.hy_value.specs.declared.Value.TheVariants.{Null}
use Rattle.hy_value.specs.Refs.{referred}
use Rattle.hy_log_record.specs.Bytes.{value_bytes, HasValueBytes}
use Rattle.hy_log_record.proofs.PushedBytes.{pushed_more}
use Rattle.hy_log_record.proofs.writing.push_values.Goals as goal

pub loop-column-preserved : goal.loop-column-preserved
loop-column-preserved c =
    pushed_more value_bytes HasValueBytes c.args.row.now c.loop-column.column (referred c.refer.result) Null c.args.out.now.items
    c.loop-column.out.items _ (omega arith) (c.refer.ensures Null) c.loop-column.invariant c.in_ok-push_value.ensures.bytes
    c.in_ok-push_value.ensures.has
