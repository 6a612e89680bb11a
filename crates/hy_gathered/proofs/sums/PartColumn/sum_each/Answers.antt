use Rattle.std.proofs.Common.{rules, ◌≡◌, ◌<◌, ◌≤◌, ◌*◌, ◌^◌, [], ◌+◌, length, Some, ap, ◌∙◌, arith, get_or, ℤ, ◌+ℤ◌, to_z, of_z}
use Rattle.std.specs.Int.RustNames.{unsigned_abs}
use mir.Syntax.{w128}
use mir.Val.{SFits}
use Rattle.std.proofs.lemmas.Int.{ints}
use Rattle.hy_meaning.specs.Totals.{added_of}
use Rattle.hy_gathered.specs.Sums.{value_in}
use Rattle.hy_gathered.proofs.Placed.{stands_at}
use Rattle.hy_gathered.proofs.Summed.{row_more}
use Rattle.hy_gathered.proofs.sums.PartColumn.sum_each.Goals as goal

pub loop-index-preserved : goal.loop-index-preserved
loop-index-preserved c =
    let column = c.args.self in
    let rows = c.args.piece.now.rows in
    let index = c.loop-index.index in
    let sum : ℤ = to_z w128 c.loop-index.sum-bits in
    let one : ℤ = c.added-sum.result in
    let next : ℤ = to_z w128 (of_z w128 (to_z w128 c.loop-index.sum-bits +ℤ to_z w128 (of_z w128 one))) in
    let below : index < length rows = omega (arith, c.loop-index-test.true, c.len-index-end.ensures) in
    let is : one ≡ added_of (value_in column (get_or rows index [])) =
    c.added-sum.ensures.value ∙ ap added_of (c.refer.ensures ∙ stands_at column (Some c.args.place) (get_or rows index []) c.requires.place) in
    let least = c.loop-index.invariant.small in
    let most = c.added-sum.ensures.small in
    let bound : index < 2 ^ 64 = omega (arith, c.loop-index-test.true, c.loop-index.auto.index-end) in
    let low : unsigned_abs sum + unsigned_abs one ≤ 2 ^ 126 * 2 = omega (arith, least, most, bound) in
    let fits : SFits w128 (sum +ℤ one) = omega (arith, ints, low) in
    let adds : next ≡ sum +ℤ one = search rules in
    record {
      whole = row_more column rows index sum one next _ below is adds c.loop-index.invariant.whole;
      small = omega (arith, ints, adds, least, most);
    }
