use Rattle.std.proofs.Common.{◌≤◌, length, arith}
use Rattle.hy_undo.proofs.NotedLists.{covered_notes}
use Rattle.hy_undo.proofs.merging.take_older.Goals as goal

pub returns : goal.returns
returns c =
    let v = c.loop-column.invariant in
    let end : length c.args.older.now ≤ c.loop-column.column = omega (arith, c.loop-column-test.false) in
    covered_notes c.args.values.now c.args.older.now c.loop-column.values c.loop-column.column c.requires c.loop-column.auto.values end v.done v.rest
