use Rattle.std.proofs.Common.{true, length, ap, ◌∙◌, arith}
use Rattle.std.proofs.lemmas.List.{length-set}
use Rattle.hy_chunk.proofs.Settling.{one_more_set}
use Rattle.hy_chunk.proofs.settled.set_part.Goals as goal

pub loop-place-preserved : goal.loop-place-preserved
loop-place-preserved c =
    let v = c.loop-place.invariant in
    record {
      size = ap length c.set.ensures ∙ (length-set c.loop-place.mask c.loop-place.place true ∙ v.size);
      set = one_more_set c.args.part.first c.loop-place.place c.loop-place.mask c.set.new.self
          (omega (arith, v.size, c.loop-place-test.true, c.requires.within)) v.set c.set.ensures;
    }
