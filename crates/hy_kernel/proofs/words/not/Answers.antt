use Rattle.std.proofs.Common.{◌/◌, ◌≤◌, length, sym, ◌∙◌, arith, inl, inr}
use Rattle.std.proofs.lemmas.Bool.{cases_lt}
use Rattle.hy_kernel.proofs.Joining.{not_bits, past_bits, behind_bits}
use Rattle.hy_kernel.proofs.words.not.Goals as goal

pub returns : goal.returns
returns c =
    let v = c.loop-k.invariant in
    let ends : length c.args.into.now ≤ c.loop-k.k = omega (arith, c.loop-k-test.false) in
    λ i. elim (cases_lt (i / 64) c.loop-k.k) [
      | inl less ↦ not_bits c.args.into.now c.loop-k.into c.args.bits i (v.fits (i / 64) less) (v.done (i / 64) less)
      | inr more ↦ past_bits c.loop-k.into i (omega (arith, c.loop-k.auto.into, ends)) ∙ sym (behind_bits c.args.bits i _ (let r = c.requires in omega (arith, ends, r)))
    ]
