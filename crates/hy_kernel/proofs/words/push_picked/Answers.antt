use Rattle.std.proofs.Common.{◌≡◌, ℕ, ◌+◌, ◌-◌, ◌<◌, List, [], ◌∷◌, ◌++◌, length, get_or, refl, sym, ap, ◌∙◌, arith, rules, pos, to_z, of_z}
use Rattle.std.specs.Prelude.{ℤ, bit_and}
use Rattle.std.specs.Int.{trailing_zeros, w64}
use Rattle.std.proofs.lemmas.List.Elements.{All-head, All-rest, All-same}
use Rattle.hy_kernel.specs.Bits.{places_of_word, values_at}
use Rattle.hy_kernel.proofs.Gathered.{all_found, few_in_word, lowest_kept, no_bits_kept, one_found}
use Rattle.hy_kernel.proofs.words.push_picked.Goals as goal

pub loop-rest-init : goal.loop-rest-init
loop-rest-init c = record {
  found = refl;
  within = c.requires.within;
  few = let few = few_in_word c.args.word c.args.first in omega (arith, few);
  room = refl;
}

pub bounds-values-first : goal.bounds-values-first
bounds-values-first c =
    let some : 0 < c.loop-rest.rest = omega (arith, c.loop-rest-test.true) in
    let kept = lowest_kept c.loop-rest.rest c.args.first some c.loop-rest.auto.rest-fits.fits in
    All-head (λ (place : ℕ). place < length c.args.values.now) _ _
    (All-same (λ (place : ℕ). place < length c.args.values.now) _ _ (sym kept) c.loop-rest.invariant.within)

pub push_reserved-requires : goal.push_reserved-requires
push_reserved-requires c =
    let some : 0 < c.loop-rest.rest = omega (arith, c.loop-rest-test.true) in
    let many = ap (λ (places : List ℕ). length places) (lowest_kept c.loop-rest.rest c.args.first some c.loop-rest.auto.rest-fits.fits) in
    let few = c.loop-rest.invariant.few in
    let room = c.loop-rest.invariant.room in
    omega (arith, many, few, room, c.requires.room)

pub loop-rest-smaller : goal.loop-rest-smaller
loop-rest-smaller c =
    let some : 0 < c.loop-rest.rest = omega (arith, c.loop-rest-test.true) in
    let many = ap (λ (places : List ℕ). length places) (lowest_kept c.loop-rest.rest c.args.first some c.loop-rest.auto.rest-fits.fits) in
    omega (arith, many)

pub loop-rest-preserved : goal.loop-rest-preserved
loop-rest-preserved c =
    let some : 0 < c.loop-rest.rest = omega (arith, c.loop-rest-test.true) in
    let kept = lowest_kept c.loop-rest.rest c.args.first some c.loop-rest.auto.rest-fits.fits in
    let many = ap (λ (places : List ℕ). length places) kept in
    let few = c.loop-rest.invariant.few in
    let room = c.loop-rest.invariant.room in
    let values = c.args.values.now in
    let place = c.args.first + trailing_zeros w64 c.loop-rest.rest in
    let number : to_z w64 (of_z w64 (get_or values place (pos 0))) ≡ get_or values place (pos 0) = search rules in
    record {
      found = one_found c.loop-rest.found.items c.push_reserved.new.self.items (values_at values (places_of_word c.loop-rest.rest c.args.first))
          (values_at values (places_of_word (bit_and c.loop-rest.rest (c.loop-rest.rest - 1)) c.args.first)) _ (get_or values place (pos 0))
          (c.push_reserved.ensures.items ∙ ap (λ (n : ℤ). c.loop-rest.found.items ++ n ∷ []) number) (ap (values_at values) kept) c.loop-rest.invariant.found;
      within = All-rest (λ (place : ℕ). place < length c.args.values.now) _ _ _ kept c.loop-rest.invariant.within;
      few = omega (arith, many, few, c.push_reserved.ensures.len);
      room = omega (arith, room, c.push_reserved.ensures.capacity);
    }

pub returns-clause-found : goal.returns-clause-found
returns-clause-found c =
    all_found c.loop-rest.found.items (values_at c.args.values.now (places_of_word c.loop-rest.rest c.args.first)) _
    (ap (values_at c.args.values.now) (no_bits_kept c.loop-rest.rest c.args.first (omega (arith, c.loop-rest-test.false)))) c.loop-rest.invariant.found
