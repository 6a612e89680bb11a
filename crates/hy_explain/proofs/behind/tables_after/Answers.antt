use Rattle.std.proofs.Common.{arith}
use Rattle.std.proofs.lemmas.List.FromFn.{map-range_with_len_more}
use Rattle.hy_explain.specs.Behind.{rows_behind}
use Rattle.hy_explain.proofs.behind.tables_after.Goals as goal

pub loop-table-preserved : goal.loop-table-preserved
loop-table-preserved c =
    let more = map-range_with_len_more (rows_behind c.args.script.now c.args.order.now c.args.rank) 0 c.loop-table.table c.loop-table.table (omega arith) in
    cc (c.in_ok-push.ensures.ok, c.in_ok-rows_after.ensures)
