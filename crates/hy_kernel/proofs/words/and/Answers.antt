use Rattle.std.proofs.Common.{◌/◌, ◌∙◌, arith, inl, inr, refl}
use Rattle.std.specs.Prelude.{bit_and}
use Rattle.std.proofs.lemmas.Bool.{cases_lt}
use Rattle.hy_kernel.proofs.Joining.{and_bits, joined_past}
use Rattle.hy_kernel.proofs.words.and.Goals as goal

pub returns : goal.returns
returns c =
    let v = c.loop-k.invariant in
    λ i. and_bits c.args.into.now c.args.other.now c.loop-k.into i (elim (cases_lt (i / 64) c.loop-k.k) [
      | inl less ↦ v.done (i / 64) less
      | inr more ↦ v.rest (i / 64) more ∙ joined_past bit_and refl c.args.into.now c.args.other.now (i / 64) (omega (arith, c.loop-k-test.false)) (omega (arith, c.loop-k-test.false, c.requires))
    ])
