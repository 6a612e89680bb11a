use Rattle.std.proofs.Common.{◌+◌, ◌*◌, List, subst, sym}
use Rattle.hy_chunk.specs.Views.{Whole}
use Rattle.hy_world.specs.Openings.{AreLaid}
use Rattle.hy_world.proofs.OpenedWorlds.{laid_more}
use Rattle.hy_world.proofs.opening.add_chunks.Goals as goal

pub loop-number-preserved : goal.loop-number-preserved
loop-number-preserved c =
    let setting = c.args.setting.now in
    subst (λ (chunks : List Whole). AreLaid setting c.args.kinds.now (c.args.table * setting.chunks + (c.loop-number.number + 1)) chunks)
    (sym c.in_ok-push.ensures.items)
    (laid_more setting c.args.kinds.now c.args.table c.loop-number.number c.loop-number.chunks.items c.in_ok-table_chunk.field-0 c.loop-number-test.true
    c.loop-number.invariant c.in_ok-table_chunk.ensures)
