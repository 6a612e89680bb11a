use Rattle.std.proofs.Common.{ℕ, ◌<◌, ◌/◌, Bool, false, List, length, get_or, sym, ap, ◌∙◌, arith}
use Rattle.std.specs.Prelude.{if◌then◌else◌}
use Rattle.std.proofs.Math.ListN.{set}
use Rattle.std.proofs.lemmas.Bool.{ne_eqb}
use Rattle.std.proofs.lemmas.List.{length-set}
use Rattle.hy_kernel.specs.Bits.{is_bit}
use Rattle.hy_kernel.proofs.Listed.{bit_of, length_below, one_set, one_listed, written, written_lies}
use Rattle.hy_kernel.proofs.masks.Mask.set.Goals as goal

pub bounds-words-place : goal.bounds-words-place
bounds-words-place c =
    let words = c.self.inside.words.items in
    let b = ap length c.self.view_is in
    let within : c.args.place < c.self.inside.bits = omega (arith, b, length_below c.self.inside.bits words, c.requires) in
    let a = ap length c.as_mut_slice-words.ensures.value in
    let size = c.self.invariant.size in
    omega (arith, within, a, size)

pub bounds-words-place-2 : goal.bounds-words-place-2
bounds-words-place-2 c =
    let words = c.self.inside.words.items in
    let b = ap length c.self.view_is in
    let within : c.args.place < c.self.inside.bits = omega (arith, b, length_below c.self.inside.bits words, c.requires) in
    let a = ap length c.as_mut_slice-words.ensures.value in
    let size = c.self.invariant.size in
    omega (arith, within, a, size)

pub invariant_of-self : goal.invariant_of-self
invariant_of-self c =
    let words = c.self.inside.words.items in
    let now = c.as_mut_slice-words.result.now in
    let b = ap length c.self.view_is in
    let within : c.args.place < c.self.inside.bits = omega (arith, b, length_below c.self.inside.bits words, c.requires) in
    let a = ap length c.as_mut_slice-words.ensures.value in
    let size = c.self.invariant.size in
    let there : c.args.place / 64 < length now = omega (arith, within, a, size) in
    written_lies c.self.inside.bits c.self.inside.words (set now (c.args.place / 64) c.with_bit.result)
    (length-set now (c.args.place / 64) c.with_bit.result ∙ c.as_mut_slice-words.ensures.len) c.self.invariant
    (λ i l. one_set now c.args.place c.with_bit.result c.args.bit there c.with_bit.ensures.here c.with_bit.ensures.others i
    ∙ (ap (λ (t : Bool). if t then c.args.bit else is_bit now i) (ne_eqb i c.args.place (λ e. absurd (omega (arith, e, l, within))))
    ∙ (ap (λ (ws : List ℕ). is_bit ws i) c.as_mut_slice-words.ensures.value ∙ c.self.invariant.clear i l)))

pub returns : goal.returns
returns c =
    let words = c.self.inside.words.items in
    let now = c.as_mut_slice-words.result.now in
    let b = ap length c.self.view_is in
    let within : c.args.place < c.self.inside.bits = omega (arith, b, length_below c.self.inside.bits words, c.requires) in
    let a = ap length c.as_mut_slice-words.ensures.value in
    let size = c.self.invariant.size in
    let there : c.args.place / 64 < length now = omega (arith, within, a, size) in
    written c.self.inside.bits c.self.inside.words (set now (c.args.place / 64) c.with_bit.result)
    (length-set now (c.args.place / 64) c.with_bit.result ∙ c.as_mut_slice-words.ensures.len) (set c.args.self.now c.args.place c.args.bit)
    (length-set c.args.self.now c.args.place c.args.bit ∙ (sym b ∙ length_below c.self.inside.bits words))
    (λ i l. one_set now c.args.place c.with_bit.result c.args.bit there c.with_bit.ensures.here c.with_bit.ensures.others i
    ∙ one_listed c.args.self.now c.args.place i c.args.bit (is_bit now i) c.requires
    (ap (λ (ws : List ℕ). is_bit ws i) c.as_mut_slice-words.ensures.value ∙ (sym (bit_of c.self.inside.bits words i l) ∙ ap (λ (bs : List Bool). get_or bs i false) c.self.view_is)))
