use Rattle.std.proofs.Common.{◌<◌, ◌^◌, arith, length-drop}
use Rattle.std.proofs.lemmas.List.{length-map}
use Rattle.hy_kernel.proofs.Packs.{small, byte_small}
use Rattle.hy_kernel.proofs.words.pack_few.Goals as goal

pub overflow_mul-word : goal.overflow_mul-word
overflow_mul-word c =
    let least : c.loop-i.word < 2 ^ 63 = small 63 c.loop-i.word _ c.loop-i.invariant (simp (length-map, length-drop) (omega arith)) in
    record { fits = omega (arith, least) }

pub overflow_add-word : goal.overflow_add-word
overflow_add-word c =
    let least : c.loop-i.word < 2 ^ 63 = small 63 c.loop-i.word _ c.loop-i.invariant (simp (length-map, length-drop) (omega arith)) in
    let bit = byte_small c.holds.result in
    record { fits = omega (arith, least, bit, c.from.ensures) }
