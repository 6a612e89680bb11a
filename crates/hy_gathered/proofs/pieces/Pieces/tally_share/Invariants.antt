use Rattle.std.proofs.Common.{◌≡◌, length, take}
use Rattle.hy_gathered.specs.Groups.{IsTallyOf}
use Rattle.hy_gathered.specs.Pieces.{rows_in_pieces}
use Rattle.hy_gathered.specs.Shares.{run_of}
use Rattle.hy_gathered.proofs.pieces.Pieces.tally_share.Given as goal

-- of the rows of the pieces so far those of the share are counted
abbrev pub invariant-loop-piece : goal.invariant-loop-piece
invariant-loop-piece l = record {
  before : l.before ≡ length (rows_in_pieces (take l.piece-index l.piece-items));
  so : IsTallyOf l.grouping (run_of l.from l.to (rows_in_pieces (take l.piece-index l.piece-items))) l.tally;
}
