use Rattle.std.proofs.Common.{◌≡◌, ◌∙◌, ℕ, List, length, replicate, ap, arith}
use Rattle.std.proofs.lemmas.Grind.{common_steps}
use Rattle.hy_disk.specs.Bytes.{overwritten}
use Rattle.hy_disk.proofs.Offers.{varied_more}
use Rattle.hy_disk.proofs.replay.varied.Goals as goal

pub images-preserved : goal.images-preserved
images-preserved c =
    let all_set : c.resize.new.self.items ≡ replicate (length c.args.from.now) 255 =
    grind (arith, common_steps, c.in_ok-resize.ensures.items, c.new-all_set.ensures.items, c.new-all_set.ensures.len) in
    let write : List ℕ → List ℕ → List ℕ = λ image from. overwritten image c.args.at from in
    varied_more c.args.images.now c.images.image-index c.image-item.result c.args.at c.args.from.now _ _ _ _ _ _ _
    c.images-test.true c.image-item.is c.images.invariant
    c.in_ok-push.ensures.items c.in_ok-push-2.ensures.items c.in_ok-push-3.ensures.items
    (c.in_ok-from_slice.ensures.items ∙ c.deref.ensures.value)
    (c.in_ok-written_in.ensures ∙ ap (λ (image : List ℕ). write image c.args.from.now) c.deref-in-images.ensures.value)
    (c.in_ok-written_in-2.ensures
    ∙ ap (λ (image : List ℕ). write image c.deref-in-images-3.result.now) c.deref-in-images-2.ensures.value
    ∙ ap (write c.image-item.result.items) (c.deref-in-images-3.ensures.value ∙ all_set))
