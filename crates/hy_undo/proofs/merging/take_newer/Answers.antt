use Rattle.std.proofs.Common.{◌≤◌, length, arith}
use Rattle.hy_undo.proofs.NotedLists.{filled_notes}
use Rattle.hy_undo.proofs.merging.take_newer.Goals as goal

pub returns : goal.returns
returns c =
    let v = c.loop-column.invariant in
    let end : length c.args.newer.now ≤ c.loop-column.column = omega (arith, c.loop-column-test.false) in
    filled_notes c.args.newer.now c.args.values.now c.loop-column.values c.loop-column.column c.requires c.loop-column.auto.values end v.done v.rest
