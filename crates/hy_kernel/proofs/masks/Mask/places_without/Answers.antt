use Rattle.std.proofs.Common.{◌∙◌, length, ap, arith}
use Rattle.hy_kernel.proofs.Gathered.{masked, ok_then}
use Rattle.hy_kernel.proofs.Listed.{as_many, length_below}
use Rattle.hy_kernel.proofs.masks.Mask.places_without.Goals as goal

pub places_without-requires-clause-many : goal.places_without-requires-clause-many
places_without-requires-clause-many c =
    let same = as_many c.self.inside.bits c.other.inside.bits c.self.inside.words.items c.other.inside.words.items c.args.self.now c.args.other.now c.self.view_is c.other.view_is c.requires.many in
    let mine = c.self.invariant.size in
    let others = c.other.invariant.size in
    omega (arith, same, mine, others, ap length c.as_slice.ensures.value, ap length c.as_slice-2.ensures.value)

pub places_without-requires-clause-within : goal.places_without-requires-clause-within
places_without-requires-clause-within c =
    let mine = c.self.invariant.size in
    omega (arith, mine, c.requires.within, ap length c.as_slice.ensures.value, ap length c.self.view_is, length_below c.self.inside.bits c.self.inside.words.items)

pub returns : goal.returns
returns c =
    let same = as_many c.self.inside.bits c.other.inside.bits c.self.inside.words.items c.other.inside.words.items c.args.self.now c.args.other.now c.self.view_is c.other.view_is c.requires.many in
    ok_then c.places_without.result
    (λ found told. told ∙ masked c.self.inside.bits c.other.inside.bits c.self.inside.words.items c.other.inside.words.items c.as_slice.result.now c.as_slice-2.result.now
    c.args.self.now c.args.other.now c.args.first c.args.end c.self.view_is c.other.view_is c.as_slice.ensures.value c.as_slice-2.ensures.value same
    (omega (arith, c.requires.within, ap length c.self.view_is, length_below c.self.inside.bits c.self.inside.words.items)))
    c.places_without.ensures
