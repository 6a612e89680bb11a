use Rattle.std.proofs.Common.{◌≡◌, ◌<◌, [], drop, get_or, length}
use Rattle.hy_gathered.specs.Pieces.{rows_in_pieces}
use Rattle.hy_gathered.proofs.pieces.Pieces.push_spread.Given as goal

-- the row is so far behind the first one of the pieces that are left
abbrev pub invariant-loop-piece : goal.invariant-loop-piece
invariant-loop-piece l = record {
  same : get_or (rows_in_pieces (drop l.piece-index l.piece-items)) l.left [] ≡ get_or l.self l.index [];
  joined : l.joined ≡ l.fn.joined;
  within : l.left < length (rows_in_pieces (drop l.piece-index l.piece-items));
}
