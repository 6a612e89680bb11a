use Rattle.std.proofs.Common.{ℕ, ◌/◌, ◌∙◌, arith, inl, inr, refl}
use Rattle.std.specs.Prelude.{bit_and}
use Rattle.std.specs.Int.{bit_not, w64}
use Rattle.std.proofs.lemmas.Bool.{cases_lt}
use Rattle.hy_kernel.proofs.Joining.{without_bits, joined_past}
use Rattle.hy_kernel.proofs.words.and_not.Goals as goal

pub returns : goal.returns
returns c =
    let v = c.loop-k.invariant in
    λ i. without_bits c.args.into.now c.args.other.now c.loop-k.into i (c.type_inv.other (i / 64)).fits (elim (cases_lt (i / 64) c.loop-k.k) [
      | inl less ↦ v.done (i / 64) less
      | inr more ↦ v.rest (i / 64) more ∙ joined_past (λ (old other : ℕ). bit_and old (bit_not w64 other)) refl c.args.into.now c.args.other.now (i / 64) (omega (arith, c.loop-k-test.false)) (omega (arith, c.loop-k-test.false, c.requires))
    ])
