use Rattle.std.proofs.Common.{◌≡◌, ℕ, Bool, false, List, length, ap, ◌∙◌, arith}
use Rattle.std.specs.Prelude.{◌&&◌, not}
use Rattle.hy_kernel.specs.Bits.{is_bit}
use Rattle.hy_kernel.proofs.Listed.{written, written_lies, joined, joined_length, as_many}
use Rattle.hy_kernel.proofs.masks.Mask.and_without.Goals as goal

abbrev f : Bool → Bool → Bool
f bit other = bit && not other

clear : (x y : Bool) → x ≡ false → f x y ≡ false
clear x y h = ap (λ (b : Bool). f b y) h

pub and_not-requires : goal.and_not-requires
and_not-requires c =
    let same = as_many c.self.inside.bits c.other.inside.bits c.self.inside.words.items c.other.inside.words.items c.args.self.now c.args.other.now c.self.view_is c.other.view_is c.requires in
    let mine = c.self.invariant.size in
    let others = c.other.invariant.size in
    let a = ap length c.as_slice.ensures.value in
    let b = ap length c.as_mut_slice.ensures.value in
    omega (arith, same, mine, others, a, b)

pub invariant_of-self : goal.invariant_of-self
invariant_of-self c =
    written_lies c.self.inside.bits c.self.inside.words c.and_not.new.into (c.and_not.auto.into ∙ c.as_mut_slice.ensures.len) c.self.invariant
    (λ i l. c.and_not.ensures i
    ∙ clear _ _ (ap (λ (ws : List ℕ). is_bit ws i) c.as_mut_slice.ensures.value ∙ c.self.invariant.clear i l))

pub returns : goal.returns
returns c =
    let same = as_many c.self.inside.bits c.other.inside.bits c.self.inside.words.items c.other.inside.words.items c.args.self.now c.args.other.now c.self.view_is c.other.view_is c.requires in
    written c.self.inside.bits c.self.inside.words c.and_not.new.into (c.and_not.auto.into ∙ c.as_mut_slice.ensures.len) _
    (joined_length f c.self.inside.bits c.other.inside.bits c.self.inside.words.items c.other.inside.words.items c.args.self.now c.args.other.now c.self.view_is c.other.view_is same)
    (joined f c.self.inside.bits c.other.inside.bits c.self.inside.words.items c.other.inside.words.items c.and_not.new.into c.args.self.now c.args.other.now c.self.view_is c.other.view_is same
    (λ i. c.and_not.ensures i ∙ (ap (λ (ws : List ℕ). f (is_bit ws i) (is_bit c.as_slice.result.now i)) c.as_mut_slice.ensures.value
    ∙ ap (λ (ws : List ℕ). f (is_bit c.self.inside.words.items i) (is_bit ws i)) c.as_slice.ensures.value)))
