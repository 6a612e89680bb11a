use Rattle.std.proofs.Common.{◌≡◌, List, ◌++◌, length, take, ap, ◌∙◌, arith}
use Rattle.std.proofs.lemmas.List.{length-append}
use Rattle.hy_plan.specs.Cells.{GatheredRows}
use Rattle.hy_meaning.specs.Statement.{Table}
use Rattle.hy_gathered.specs.Pieces.{rows_in_pieces}
use Rattle.hy_gathered.proofs.RowGroups.{piece_counted}
use Rattle.hy_gathered.proofs.Piled.{pieces_few, pieces_taken}
use Rattle.hy_gathered.proofs.pieces.Pieces.add_each.Goals as goal

pub add_rows-requires : goal.add_rows-requires
add_rows-requires c =
    let few = pieces_few c.deref-piece-items.result.now c.loop-piece.piece-index c.piece-item.result c.loop-piece-test.true c.piece-item.is in
    let all : length (rows_in_pieces c.deref-piece-items.result.now) ≡ length c.args.self.now =
    ap (λ (pieces : List GatheredRows). length (rows_in_pieces pieces)) c.deref-piece-items.ensures.value ∙ ap length c.self.view_is in
    omega (arith, few, c.loop-piece.invariant.rows, c.requires, all)

pub loop-piece-preserved : goal.loop-piece-preserved
loop-piece-preserved c =
    let pieces = c.deref-piece-items.result.now in
    let index = c.loop-piece.piece-index in
    let piece = c.piece-item.result in
    let taken : Table = rows_in_pieces (take index pieces) in
    let more = ap length (pieces_taken pieces index piece c.loop-piece-test.true c.piece-item.is) in
    let longer = length-append taken piece.rows in
    record {
      rows = omega (arith, more, longer, c.loop-piece.invariant.rows, c.in_ok-add_rows.ensures.rows);
      groups = λ rows is.
          piece_counted c.args.grouping rows pieces index piece _ c.loop-piece-test.true c.piece-item.is
          (c.in_ok-add_rows.ensures.groups (rows ++ taken) (c.loop-piece.invariant.groups rows is));
    }
