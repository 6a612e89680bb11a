use Rattle.std.proofs.Common.{◌≡◌, ◌+ℤ◌, ◌≤◌, ◌*◌, ◌^◌, drop}
use Rattle.std.specs.Int.RustNames.{unsigned_abs}
use Rattle.hy_gathered.specs.Sums.{sum_by}
use Rattle.hy_gathered.proofs.sums.PartColumn.sum_each.Given as goal

-- the sum so far and that of the rest are the whole, and each row so far added at most 2^63
abbrev pub invariant-loop-index : goal.invariant-loop-index
invariant-loop-index l = record {
  whole : l.sum +ℤ sum_by l.fn.self (drop l.index l.piece.rows) ≡ sum_by l.fn.self l.piece.rows;
  small : unsigned_abs l.sum ≤ 2 ^ 63 * l.index;
}
