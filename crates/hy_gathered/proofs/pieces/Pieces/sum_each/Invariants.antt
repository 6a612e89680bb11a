use Rattle.std.proofs.Common.{◌≡◌, ◌+ℤ◌, ◌+◌, ◌≤◌, ◌*◌, ◌^◌, drop, length}
use Rattle.std.specs.Int.RustNames.{unsigned_abs}
use Rattle.hy_gathered.specs.Pieces.{rows_in_pieces}
use Rattle.hy_gathered.specs.Sums.{sum_by}
use Rattle.hy_gathered.proofs.pieces.Pieces.sum_each.Given as goal

-- the sum so far and that of the rest are the whole, and each row so far added at most 2^63
abbrev pub invariant-loop-piece : goal.invariant-loop-piece
invariant-loop-piece l = record {
  whole : l.sum +ℤ sum_by l.column (rows_in_pieces (drop l.piece-index l.piece-items)) ≡ sum_by l.column l.self;
  small : unsigned_abs l.sum + 2 ^ 63 * length (rows_in_pieces (drop l.piece-index l.piece-items)) ≤ 2 ^ 63 * length l.self;
}
