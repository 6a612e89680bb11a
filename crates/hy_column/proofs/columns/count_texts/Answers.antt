use Rattle.std.proofs.Common.{arith, ◌≡◌, ◌≤◌}
use Rattle.hy_column.specs.Cells.{kind_texts}
use Rattle.hy_column.specs.Columns.{kind_of}
use Rattle.hy_column.proofs.TextColumns.{kinds_more, kind_small}
use Rattle.hy_column.proofs.columns.count_texts.Goals as goal

pub loop-column-preserved : goal.loop-column-preserved
loop-column-preserved c =
    let column = c.column-item.result in
    let small : kind_texts (kind_of column) ≤ 1 = kind_small (kind_of column) in
    record {
      counted = rw (kinds_more c.args.columns.now c.loop-column.column-index column c.loop-column-test.true c.column-item.is) (omega arith);
      below = omega arith;
    }
