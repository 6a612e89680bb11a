use Rattle.std.proofs.Common.{ℕ, Bool, false, List, length, get_or, sym, ap, ◌∙◌, arith}
use Rattle.std.specs.Prelude.{not, ◌&&◌}
use Rattle.std.proofs.lemmas.List.{length-map}
use Rattle.std.proofs.lemmas.Bool.{lt-ltb, le-ltb}
use Rattle.hy_kernel.specs.Bits.{is_bit}
use Rattle.hy_kernel.proofs.Listed.{written, written_lies, length_below, bit_of, get_turned}
use Rattle.hy_kernel.proofs.masks.Mask.invert.Goals as goal

pub not-requires : goal.not-requires
not-requires c =
    let mine = c.self.invariant.size in
    let a = ap length c.as_mut_slice.ensures.value in
    omega (arith, mine, a)

pub invariant_of-self : goal.invariant_of-self
invariant_of-self c =
    written_lies c.self.inside.bits c.self.inside.words c.not.new.into (c.not.auto.into ∙ c.as_mut_slice.ensures.len) c.self.invariant
    (λ i l. c.not.ensures i ∙ ap (λ (b : Bool). b && not (is_bit c.as_mut_slice.result.now i)) (le-ltb i c.self.inside.bits l))

pub returns : goal.returns
returns c =
    let b = ap length c.self.view_is in
    written c.self.inside.bits c.self.inside.words c.not.new.into (c.not.auto.into ∙ c.as_mut_slice.ensures.len) _
    (length-map c.args.self.now not ∙ (sym b ∙ length_below c.self.inside.bits c.self.inside.words.items))
    (λ i l. c.not.ensures i
    ∙ (ap (λ (b : Bool). b && not (is_bit c.as_mut_slice.result.now i)) (lt-ltb i c.self.inside.bits l)
    ∙ (ap (λ (ws : List ℕ). not (is_bit ws i)) c.as_mut_slice.ensures.value
    ∙ (ap not (sym (bit_of c.self.inside.bits c.self.inside.words.items i l) ∙ ap (λ (bs : List Bool). get_or bs i false) c.self.view_is)
    ∙ sym (get_turned c.args.self.now i (omega (arith, l, b, length_below c.self.inside.bits c.self.inside.words.items)))))))
