use Rattle.std.proofs.Common.{ℕ, ◌<◌, ◌/◌, ◌%◌, Bool, false, List, length, get_or, sym, ap, ◌∙◌, arith}
use Rattle.std.specs.Prelude.{◌==◌}
use Rattle.std.proofs.lemmas.Nat.Bits.{shr_and_one}
use Rattle.hy_kernel.specs.Bits.{is_bit}
use Rattle.hy_kernel.proofs.Listed.{bit_of, length_below}
use Rattle.hy_kernel.proofs.masks.Mask.get.Goals as goal

pub bounds-words-place : goal.bounds-words-place
bounds-words-place c =
    let words = c.self.inside.words.items in
    let b = ap length c.self.view_is in
    let within : c.args.place < c.self.inside.bits = omega (arith, b, length_below c.self.inside.bits words, c.requires) in
    let a = ap length c.as_slice-words.ensures.value in
    let size = c.self.invariant.size in
    omega (arith, within, a, size)

pub returns : goal.returns
returns c =
    let words = c.self.inside.words.items in
    let b = ap length c.self.view_is in
    let within : c.args.place < c.self.inside.bits = omega (arith, b, length_below c.self.inside.bits words, c.requires) in
    ap (λ (x : ℕ). x == 1) (shr_and_one (get_or c.as_slice-words.result.now (c.args.place / 64) 0) (c.args.place % 64))
    ∙ (ap (λ (ws : List ℕ). is_bit ws c.args.place) c.as_slice-words.ensures.value
    ∙ (sym (bit_of c.self.inside.bits words c.args.place within) ∙ ap (λ (bs : List Bool). get_or bs c.args.place false) c.self.view_is))
