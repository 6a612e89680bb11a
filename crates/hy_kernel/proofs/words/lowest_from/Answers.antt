use Rattle.std.proofs.Common.{◌≡◌, ℕ, ◌-◌, ◌^◌, ◌<◌, sym, ap, ◌∙◌, subst, arith}
use Rattle.std.specs.Prelude.{bit_and}
use Rattle.std.specs.Int.{bit_not, trailing_zeros, w64}
use Rattle.std.proofs.lemmas.Nat.{and_le_l}
use Rattle.hy_kernel.specs.Bits.{IsLowest}
use Rattle.hy_kernel.proofs.Lowest.{rest_of, lowest_left, none_set}
use Rattle.hy_kernel.proofs.words.lowest_from.Goals as goal

pub returns-then-rest-eq0-clause-none : goal.returns-then-rest-eq0-clause-none
returns-then-rest-eq0-clause-none c =
    let fits : 2 ^ c.args.from - 1 < 2 ^ 64 = omega (arith, c.low_ones.ensures, c.low_ones.type_inv) in
    none_set c.args.word c.args.from fits (ap (λ (n : ℕ). bit_and c.args.word (bit_not w64 n)) (sym c.low_ones.ensures) ∙ c.if-rest-eq0.true)

pub returns-else-rest-eq0-clause-found : goal.returns-else-rest-eq0-clause-found
returns-else-rest-eq0-clause-found c =
    let fits : 2 ^ c.args.from - 1 < 2 ^ 64 = omega (arith, c.low_ones.ensures, c.low_ones.type_inv) in
    let is : bit_and c.args.word (bit_not w64 c.low_ones.result) ≡ rest_of c.args.word c.args.from = ap (λ (n : ℕ). bit_and c.args.word (bit_not w64 n)) c.low_ones.ensures in
    let some : 0 < rest_of c.args.word c.args.from = omega (arith, is, c.if-rest-eq0.false) in
    let less : rest_of c.args.word c.args.from < 2 ^ 64 = let below = and_le_l c.args.word (bit_not w64 (2 ^ c.args.from - 1)) in omega (arith, below, c.ranges.word.fits) in
    subst (λ (n : ℕ). IsLowest c.args.word c.args.from (trailing_zeros w64 n)) (sym is) (lowest_left c.args.word c.args.from fits some less)
