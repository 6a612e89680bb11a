use Rattle.std.proofs.Common.{◌≡◌, ℕ, ◌+◌, ◌%◌, ◌^◌, get_or, refl, ap, ◌∙◌, arith, rules, ℤ, pos, ◌+ℤ◌, FitsSigned, w64, of_z}
use Rattle.std.proofs.lemmas.Int.{to_z-of_z}
use Rattle.hy_gathered.proofs.Halves.{halves_more, moved_up}
use Rattle.hy_gathered.proofs.sums.sum_halves.Goals as goal

pub loop-number-preserved : goal.loop-number-preserved
loop-number-preserved c =
    let numbers = c.args.numbers.now in
    let index = c.loop-number.number-index in
    let number = get_or numbers index (pos 0) in
    let fits : FitsSigned w64 number = search rules in
    let moved = (c.cast_unsigned.result + 2 ^ 63) % 2 ^ 64 in
    let up : pos moved ≡ number +ℤ pos (2 ^ 63) =
    ap (λ (n : ℕ). pos ((n + 2 ^ 63) % 2 ^ 64)) (c.cast_unsigned.ensures ∙ ap (of_z w64) (to_z-of_z w64 number fits)) ∙ moved_up number fits in
    let low = c.loop-number.invariant.low in
    let high = c.loop-number.invariant.high in
    record {
      whole = halves_more numbers index c.loop-number.low c.loop-number.high moved number c.loop-number-test.true refl up c.loop-number.invariant.whole;
      low = omega (arith, low);
      high = omega (arith, high);
    }
