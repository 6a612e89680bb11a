use Rattle.std.proofs.Common.{◌≡◌, length, sym, ap, subst, arith}
use Rattle.std.proofs.lemmas.List.{length-replicate}
use Rattle.hy_undo.specs.Chunks.{ChunkData}
use Rattle.hy_chunk.specs.Fields.{blank_place}
use Rattle.hy_engine_tests.specs.Ready.{AreUnused, two_numbers}
use Rattle.hy_engine_tests.proofs.Wholes.{at_first, none_used}
use Rattle.hy_engine_tests.proofs.tried.Tried.new.Goals as goal

pub load_rows-requires-clause-ready : goal.load_rows-requires-clause-ready
load_rows-requires-clause-ready c = at_first c.args.positions _ c.requires.many c.in_ok-chunk.ensures.kinds c.in_ok-chunk.ensures.shown

pub load_rows-requires-clause-unused : goal.load_rows-requires-clause-unused
load_rows-requires-clause-unused c =
    subst (λ (d : ChunkData). AreUnused 0 d.places) (sym c.in_ok-chunk.ensures.shown) (none_used c.args.positions two_numbers)

pub load_rows-requires-clause-few : goal.load_rows-requires-clause-few
load_rows-requires-clause-few c =
    omega (
      arith,
      ap (λ (d : ChunkData). length d.places) c.in_ok-chunk.ensures.shown,
      length-replicate c.args.positions (blank_place two_numbers),
      c.requires.few,
    )
