use Rattle.std.proofs.Common.{◌+◌, length, sym, ap, subst, arith}
use Rattle.std.proofs.lemmas.List.{length-replicate}
use Rattle.hy_undo.specs.Chunks.{ChunkData}
use Rattle.hy_chunk.specs.Fields.{blank_place}
use Rattle.hy_measured.specs.declared.ready.TheConstants.{OLD_START}
use Rattle.hy_measured.specs.Ready.{AreUnused, two_numbers}
use Rattle.hy_measured.proofs.Wholes.{at_first, none_used}
use Rattle.hy_measured.proofs.ready.Ready.full.Goals as goal

pub load_rows-requires-clause-ready : goal.load_rows-requires-clause-ready
load_rows-requires-clause-ready c =
    at_first c.args.rows c.args.first (OLD_START + 1) _ c.in_ok-chunk.ensures.kinds c.in_ok-chunk.ensures.shown

pub load_rows-requires-clause-unused : goal.load_rows-requires-clause-unused
load_rows-requires-clause-unused c =
    subst (λ (d : ChunkData). AreUnused 0 d.places) (sym c.in_ok-chunk.ensures.shown) (none_used c.args.rows two_numbers)

pub load_rows-requires-clause-few : goal.load_rows-requires-clause-few
load_rows-requires-clause-few c =
    omega (arith, ap (λ (d : ChunkData). length d.places) c.in_ok-chunk.ensures.shown, length-replicate c.args.rows (blank_place two_numbers))
