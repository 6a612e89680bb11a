use Rattle.std.proofs.Common.{◌≡◌, ◌+◌, ◌<◌, ◌≤◌, ◌*◌, ◌^◌, length, ap, arith, rules, to_z, of_z, ℤ, ◌+ℤ◌}
use Rattle.std.specs.Int.RustNames.{unsigned_abs}
use mir.Syntax.{w128}
use mir.Val.{SFits}
use Rattle.std.proofs.lemmas.Int.{ints}
use Rattle.hy_gathered.proofs.Summed.{piece_more, pieces_fewer}
use Rattle.hy_gathered.proofs.pieces.Pieces.sum_each.Goals as goal

pub loop-piece-preserved : goal.loop-piece-preserved
loop-piece-preserved c =
    let pieces = c.deref-piece-items.result.now in
    let index = c.loop-piece.piece-index in
    let piece = c.piece-item.result in
    let sum : ℤ = to_z w128 c.loop-piece.sum-bits in
    let one : ℤ = c.in_ok-sum.field-0 in
    let next : ℤ = to_z w128 (of_z w128 (to_z w128 c.loop-piece.sum-bits +ℤ to_z w128 (of_z w128 one))) in
    let fewer = pieces_fewer pieces index piece c.loop-piece-test.true c.piece-item.is in
    let least = c.loop-piece.invariant.small in
    let most = c.in_ok-sum.ensures.small in
    let size : length c.args.self.now < 2 ^ 64 = omega (arith, c.self.invariant, ap length c.self.view_is) in
    let low : unsigned_abs sum + unsigned_abs one ≤ 2 ^ 126 * 2 = omega (arith, fewer, least, most, size) in
    let fits : SFits w128 (sum +ℤ one) = omega (arith, ints, low) in
    let adds : next ≡ sum +ℤ one = search rules in
    record {
      whole = piece_more c.args.column pieces index piece sum one next _ c.loop-piece-test.true c.piece-item.is c.in_ok-sum.ensures.value adds c.loop-piece.invariant.whole;
      small = omega (arith, ints, adds, fewer, least, most);
    }
