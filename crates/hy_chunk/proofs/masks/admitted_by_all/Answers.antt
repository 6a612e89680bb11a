use Rattle.std.proofs.Common.{◌≡◌, ◌<◌, ◌∷◌, [], Bor, length, map, get_or, refl, sym, ap, ◌∙◌, arith}
use Rattle.std.proofs.lemmas.List.{length-map}
use Rattle.hy_bound.specs.Condition.{Condition}
use Rattle.hy_bound.specs.declared.predicate.Pred.{Pred}
use Rattle.hy_chunk.specs.Masked.{Admits, Confirms}
use Rattle.hy_chunk.proofs.Asking.{some_has}
use Rattle.hy_chunk.proofs.Found.{mapped_at}
use Rattle.hy_chunk.proofs.Masking.{as_long, joins_all, joins_full, joins_inexact, joins_next}
use Rattle.hy_chunk.proofs.masks.admitted_by_all.Goals.{in-Some, in-None}
use Rattle.hy_chunk.proofs.masks.admitted_by_all.Goals as goal

pub loop-part-init : goal.loop-part-init
loop-part-init c = λ exact. refl

pub joined-requires : goal.joined-requires
joined-requires c =
    as_long (map (λ (part : Bor Pred). part.now) c.args.parts.now) c.loop-part.part-index c.args.positions.now.places c.loop-part.found c.loop-part.is_exact _
    (some_has c.in_ok-mask.field-0 c.in-Some.mask (Admits _ c.args.positions.now.places) c.in-Some.is c.in_ok-mask.ensures.admits).many c.loop-part.invariant

pub loop-part-preserved : goal.loop-part-preserved
loop-part-preserved c =
    let now : Bor Pred → Condition = λ part. part.now in
    let parts = map now c.args.parts.now in
    let places = c.args.positions.now.places in
    let here : c.loop-part.part-index < length c.args.parts.now = omega (arith, c.loop-part-test.true) in
    let there : c.loop-part.part-index < length parts = omega (arith, here, length-map c.args.parts.now now) in
    let part : Condition = c.part-item.result.now in
    let at : part ≡ get_or parts c.loop-part.part-index part =
    sym (mapped_at now c.args.parts.now c.loop-part.part-index c.part-item.result ∙ ap now (sym c.part-item.is)) in
    elim c.match-branch-2.branch [
      | in-Some w ↦
          rw (w.found-is, w.is_exact-is) (joins_next parts c.loop-part.part-index part places c.loop-part.found w.in-Some.mask w.joined.result
          c.loop-part.is_exact there at w.joined.ensures.first w.joined.ensures.both
          (some_has c.in_ok-mask.field-0 w.in-Some.mask (Admits (part ∷ []) places) w.in-Some.is c.in_ok-mask.ensures.admits)
          (some_has c.in_ok-mask.field-0 w.in-Some.mask (Confirms (part ∷ []) places) w.in-Some.is c.in_ok-mask.ensures.confirms)
          c.loop-part.invariant)
      | in-None w ↦
          rw (w.found-is, w.is_exact-is)
          (joins_inexact parts c.loop-part.part-index places c.loop-part.found c.loop-part.is_exact c.loop-part.invariant)
    ]
