use Rattle.hy_prune.specs.Fates.{watermark_of}
use Rattle.hy_visit.proofs.Placed.{free_none}
use Rattle.hy_visit.proofs.writing.is_passed.Goals as goal

pub returns-then-is_full-clause-full : goal.returns-then-is_full-clause-full
returns-then-is_full-clause-full c = λ _.
    free_none c.args.cover.now c.args.chunk.now.shown (c.is_full.ensures c.if-is_full.true (watermark_of c.args.cover.now))
