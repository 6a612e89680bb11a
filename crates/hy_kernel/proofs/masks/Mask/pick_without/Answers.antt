use Rattle.std.proofs.Common.{ℕ, ◌<◌, ◌∙◌, length, ap, arith}
use Rattle.std.proofs.lemmas.List.Elements.{All-same}
use Rattle.hy_kernel.specs.Bits.{values_at}
use Rattle.hy_kernel.proofs.Gathered.{masked, ok_then}
use Rattle.hy_kernel.proofs.Listed.{as_many, length_below}
use Rattle.hy_kernel.proofs.masks.Mask.pick_without.Goals as goal

pub pick_without-requires-clause-many : goal.pick_without-requires-clause-many
pick_without-requires-clause-many c =
    let same = as_many c.self.inside.bits c.other.inside.bits c.self.inside.words.items c.other.inside.words.items c.args.self.now c.args.other.now c.self.view_is c.other.view_is c.requires.many in
    let mine = c.self.invariant.size in
    let others = c.other.invariant.size in
    omega (arith, same, mine, others, ap length c.as_slice.ensures.value, ap length c.as_slice-2.ensures.value)

pub pick_without-requires-clause-within : goal.pick_without-requires-clause-within
pick_without-requires-clause-within c =
    let mine = c.self.invariant.size in
    omega (arith, mine, c.requires.within, ap length c.as_slice.ensures.value, ap length c.self.view_is, length_below c.self.inside.bits c.self.inside.words.items)

pub pick_without-requires-clause-places : goal.pick_without-requires-clause-places
pick_without-requires-clause-places c =
    let same = as_many c.self.inside.bits c.other.inside.bits c.self.inside.words.items c.other.inside.words.items c.args.self.now c.args.other.now c.self.view_is c.other.view_is c.requires.many in
    All-same (λ (place : ℕ). place < length c.args.values.now) _ _
    (masked c.self.inside.bits c.other.inside.bits c.self.inside.words.items c.other.inside.words.items c.as_slice.result.now c.as_slice-2.result.now
    c.args.self.now c.args.other.now c.args.first c.args.end c.self.view_is c.other.view_is c.as_slice.ensures.value c.as_slice-2.ensures.value same
    (omega (arith, c.requires.within, ap length c.self.view_is, length_below c.self.inside.bits c.self.inside.words.items)))
    c.requires.places

pub returns : goal.returns
returns c =
    let same = as_many c.self.inside.bits c.other.inside.bits c.self.inside.words.items c.other.inside.words.items c.args.self.now c.args.other.now c.self.view_is c.other.view_is c.requires.many in
    ok_then c.pick_without.result
    (λ found told. told ∙ ap (values_at c.args.values.now) (masked c.self.inside.bits c.other.inside.bits c.self.inside.words.items c.other.inside.words.items c.as_slice.result.now c.as_slice-2.result.now
    c.args.self.now c.args.other.now c.args.first c.args.end c.self.view_is c.other.view_is c.as_slice.ensures.value c.as_slice-2.ensures.value same
    (omega (arith, c.requires.within, ap length c.self.view_is, length_below c.self.inside.bits c.self.inside.words.items))))
    c.pick_without.ensures
