use Rattle.hy_render.proofs.Buffers.{begins_from}
use Rattle.hy_render.proofs.rows.print_doubled.Goals as goal

pub returns-in_err-put-clause-begun : goal.returns-in_err-put-clause-begun
returns-in_err-put-clause-begun c = begins_from _ _ _ _ c.loop-byte.invariant c.put.ensures.begun
