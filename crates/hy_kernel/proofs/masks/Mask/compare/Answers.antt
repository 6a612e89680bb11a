use Rattle.std.proofs.Common.{ℤ, false, get_or, to_z, of_z, w64, length, map, sym, ap, ◌∙◌, arith}
use Rattle.std.proofs.lemmas.List.{length-map, get_or_past}
use Rattle.std.proofs.lemmas.Int.{to_z-of_z}
use Rattle.hy_kernel.specs.Bits.{compares}
use Rattle.hy_kernel.proofs.Listed.{written, written_lies, length_below}
use Rattle.hy_kernel.proofs.masks.Mask.compare.Goals as goal

pub compare-requires : goal.compare-requires
compare-requires c =
    let mine = c.self.invariant.size in
    let a = ap length c.as_mut_slice.ensures.value in
    let b = ap length c.self.view_is in
    omega (arith, mine, a, b, length_below c.self.inside.bits c.self.inside.words.items, c.requires)

pub invariant_of-self : goal.invariant_of-self
invariant_of-self c =
    let b = ap length c.self.view_is in
    written_lies c.self.inside.bits c.self.inside.words c.compare.new.into (c.compare.auto.into ∙ c.as_mut_slice.ensures.len) c.self.invariant
    (λ i l. c.compare.ensures i ∙ get_or_past (map (compares c.args.op (to_z w64 (of_z w64 c.args.right))) c.args.values.now) i _
    (omega (arith, l, length-map c.args.values.now (compares c.args.op (to_z w64 (of_z w64 c.args.right))), b, length_below c.self.inside.bits c.self.inside.words.items, c.requires)))

pub returns : goal.returns
returns c =
    let b = ap length c.self.view_is in
    written c.self.inside.bits c.self.inside.words c.compare.new.into (c.compare.auto.into ∙ c.as_mut_slice.ensures.len) (map (compares c.args.op c.args.right) c.args.values.now)
    (length-map c.args.values.now (compares c.args.op c.args.right) ∙ (c.requires ∙ (sym b ∙ length_below c.self.inside.bits c.self.inside.words.items)))
    (λ i l. c.compare.ensures i ∙ ap (λ (z : ℤ). get_or (map (compares c.args.op z) c.args.values.now) i false) (to_z-of_z w64 c.args.right c.ranges.right))
