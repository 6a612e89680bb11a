use Rattle.std.proofs.Common.{ℕ, ◌<◌, List, length, refl, ap, arith}
use Rattle.hy_kernel.specs.Bits.{places_of_word}
use Rattle.hy_kernel.proofs.Gathered.{all_found, few_in_word, lowest_kept, no_bits_kept, one_found}
use Rattle.hy_kernel.proofs.words.push_set.Goals as goal

pub loop-rest-init : goal.loop-rest-init
loop-rest-init c = record { found = refl; few = let few = few_in_word c.args.word c.args.first in omega (arith, few); room = refl }

pub push_reserved-requires : goal.push_reserved-requires
push_reserved-requires c =
    let some : 0 < c.loop-rest.rest = omega (arith, c.loop-rest-test.true) in
    let many = ap (λ (places : List ℕ). length places) (lowest_kept c.loop-rest.rest c.args.first some c.loop-rest.auto.rest-fits.fits) in
    let few = c.loop-rest.invariant.few in
    let room = c.loop-rest.invariant.room in
    omega (arith, many, few, room, c.requires.room)

pub loop-rest-smaller : goal.loop-rest-smaller
loop-rest-smaller c =
    let some : 0 < c.loop-rest.rest = omega (arith, c.loop-rest-test.true) in
    let many = ap (λ (places : List ℕ). length places) (lowest_kept c.loop-rest.rest c.args.first some c.loop-rest.auto.rest-fits.fits) in
    omega (arith, many)

pub loop-rest-preserved : goal.loop-rest-preserved
loop-rest-preserved c =
    let some : 0 < c.loop-rest.rest = omega (arith, c.loop-rest-test.true) in
    let kept = lowest_kept c.loop-rest.rest c.args.first some c.loop-rest.auto.rest-fits.fits in
    let many = ap (λ (places : List ℕ). length places) kept in
    let few = c.loop-rest.invariant.few in
    let room = c.loop-rest.invariant.room in
    record {
      found = one_found c.loop-rest.found.items c.push_reserved.new.self.items _ _ _ _ c.push_reserved.ensures.items kept c.loop-rest.invariant.found;
      few = omega (arith, many, few, c.push_reserved.ensures.len);
      room = omega (arith, room, c.push_reserved.ensures.capacity);
    }

pub returns-clause-found : goal.returns-clause-found
returns-clause-found c =
    all_found c.loop-rest.found.items (places_of_word c.loop-rest.rest c.args.first) _
    (no_bits_kept c.loop-rest.rest c.args.first (omega (arith, c.loop-rest-test.false))) c.loop-rest.invariant.found
