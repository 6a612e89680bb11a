use Rattle.std.proofs.Common.{ℕ, ℤ, Bool, List, map, take, drop, ap, ◌∙◌, arith, to_z, of_z, w64}
use Rattle.hy_kernel.specs.Bits.{compares}
use lib.Lanes.{mask_l}
use Rattle.hy_kernel.proofs.Packs.{rest_after, one_more}
use Rattle.hy_kernel.proofs.words.compare.Goals as goal

pub loop-k-preserved : goal.loop-k-preserved
loop-k-preserved c =
    let v = c.loop-k.invariant in
    let p : ℤ → Bool = compares c.args.op (to_z w64 (of_z w64 c.args.right)) in
    record {
      rest = c.split_at.ensures.back ∙ (ap (λ (n : ℕ). drop n c.loop-k.rest.now) c.min.ensures ∙ rest_after c.args.values.now c.loop-k.rest.now c.loop-k.k v.rest);
      done = one_more p c.args.values.now c.loop-k.rest.now c.loop-k.into c.loop-k.k c.pack.result (omega (arith, c.loop-k-test.true, c.loop-k.auto.into)) v.rest
          (c.pack.ensures ∙ ap (λ (ys : List ℤ). mask_l (map p ys)) (c.split_at.ensures.front ∙ ap (λ (n : ℕ). take n c.loop-k.rest.now) c.min.ensures)) v.done;
    }
