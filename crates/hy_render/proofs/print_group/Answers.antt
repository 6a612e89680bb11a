use Rattle.hy_render.proofs.Buffers.{begins_from}
use Rattle.hy_render.proofs.print_group.Goals as goal

pub returns-clause-begun : goal.returns-clause-begun
returns-clause-begun c =
    begins_from _ _ _ _ c.in_ok-put.ensures.ok (begins_from _ _ _ _ c.in_ok-print_value.ensures.ok (begins_from _ _ _ _ c.in_ok-put-2.ensures.ok c.end_with_total.ensures.begun))
