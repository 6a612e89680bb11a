use Rattle.std.proofs.Common.{◌<◌, ◌++◌, List, [], length, get_or, ap, ◌∙◌, arith}
use Rattle.std.proofs.lemmas.Result.{IfOk-equal}
use Rattle.hy_value.specs.declared.Value.{Value}
use Rattle.hy_bound.specs.Projection.{spread}
use Rattle.hy_gathered.proofs.Piled.{fewer_left, in_later_pieces, in_this_piece, none_left}
use Rattle.hy_gathered.proofs.pieces.Pieces.push_spread.Goals as goal

pub returns-then-left-rows : goal.returns-then-left-rows
returns-then-left-rows c =
    let low : c.loop-piece.left < length c.piece-item.result.rows = omega (arith, c.if-left-rows.true, c.len-rows.ensures) in
    let row = in_this_piece c.deref-piece-items.result.now c.loop-piece.piece-index c.loop-piece.left c.piece-item.result _ c.loop-piece-test.true
    c.piece-item.is low c.loop-piece.invariant.same in
    let behind : List Value → List Value = λ front. front ++ spread c.args.columns c.args.width (get_or c.args.self.now c.args.index []) in
    IfOk-equal c.push_spread.result _ _ _ c.push_spread.ensures
    (ap (λ (r : List Value). c.loop-piece.joined ++ spread c.args.columns c.args.width r) row ∙ ap behind c.loop-piece.invariant.joined)

pub loop-piece-preserved : goal.loop-piece-preserved
loop-piece-preserved c =
    let pieces = c.deref-piece-items.result.now in
    record {
      same = in_later_pieces pieces c.loop-piece.piece-index c.loop-piece.left c.len-rows.result c.piece-item.result _ c.loop-piece-test.true c.piece-item.is
          c.len-rows.ensures c.if-left-rows.false c.loop-piece.invariant.same;
      joined = c.loop-piece.invariant.joined;
      within = fewer_left pieces c.loop-piece.piece-index c.loop-piece.left c.len-rows.result c.piece-item.result c.loop-piece-test.true c.piece-item.is
          c.len-rows.ensures c.if-left-rows.false c.loop-piece.invariant.within;
    }

pub unreachable-requires : goal.unreachable-requires
unreachable-requires c =
    none_left c.deref-piece-items.result.now c.loop-piece.piece-index c.loop-piece.left c.loop-piece-test.false c.loop-piece.invariant.within
