use Rattle.std.proofs.Common.{◌<◌, ◌≤◌, ◌*◌, ◌^◌, length, ap, sym, map, arith, length-drop, to_z, of_z, w64}
use lib.Lanes.{mask_l}
use Rattle.std.proofs.lemmas.List.{length-map, length-take, drop_all}
use Rattle.hy_kernel.specs.Bits.{compares}
use Rattle.hy_kernel.proofs.Packs.{small, part_more}
use Rattle.hy_kernel.proofs.words.pack_64.Goals as goal

pub loop-i-init : goal.loop-i-init
loop-i-init c =
    let p = compares c.args.op (to_z w64 (of_z w64 c.args.right)) in
    ap (λ xs. mask_l (map p xs)) (sym (drop_all 64 c.args.values.now (omega (arith, c.requires))))

pub overflow_mul-word : goal.overflow_mul-word
overflow_mul-word c =
    let few : c.loop-i.word < 2 ^ 48 = small 48 c.loop-i.word _ c.loop-i.invariant (simp (length-map, length-drop) (omega arith)) in
    record { fits = omega (arith, few) }

pub overflow_add-word : goal.overflow_add-word
overflow_add-word c =
    let few : c.loop-i.word < 2 ^ 48 = small 48 c.loop-i.word _ c.loop-i.invariant (simp (length-map, length-drop) (omega arith)) in
    let part : c.pack_16.result < 2 ^ 16 = small 16 c.pack_16.result _ c.pack_16.ensures (simp (length-map, length-take) (omega arith)) in
    record { fits = omega (arith, few, part) }

pub loop-i-preserved : goal.loop-i-preserved
loop-i-preserved c =
    let p = compares c.args.op (to_z w64 (of_z w64 c.args.right)) in
    let within : 16 * c.loop-i.i ≤ length c.args.values.now = omega arith in
    part_more p c.args.values.now c.loop-i.i c.loop-i.word c.pack_16.result c.loop-i-test.true within c.loop-i.invariant c.pack_16.ensures
