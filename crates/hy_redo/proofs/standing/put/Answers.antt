use Rattle.std.proofs.Common.{sym, arith}
use Rattle.hy_redo.specs.Tables.{with_cell}
use Rattle.hy_redo.proofs.Deciding.{put_there, with_table_past}
use Rattle.hy_redo.proofs.standing.put.Goals as goal

pub returns-then-table-len : goal.returns-then-table-len
returns-then-table-len c =
    put_there c.args.table (with_cell c.args.pos c.args.cell) c.args.tables.now.items c.index_mut.result.now c.put_cell.new.held
    (omega arith) c.index_mut.ensures.value c.put_cell.ensures

pub returns-else-table-len : goal.returns-else-table-len
returns-else-table-len c = sym (with_table_past c.args.table (with_cell c.args.pos c.args.cell) c.args.tables.now.items (omega arith))
