use Rattle.std.proofs.Common.{◌∙◌}
use Rattle.hy_world.proofs.ReadBack.{gathered_more}
use Rattle.hy_world.proofs.finishing.gather_chunks.Goals as goal

pub loop-chunk-preserved : goal.loop-chunk-preserved
loop-chunk-preserved c = record {
  rows = c.in_ok-gather_chunk.ensures.rows
      ∙ gathered_more c.args.viewer.now c.args.chunks.now.items c.loop-chunk.chunks.items c.args.first c.loop-chunk.chunk c.args.gathered.now.rows
      c.loop-chunk.gathered.rows c.loop-chunk.invariant.kept c.loop-chunk.invariant.rows;
  width = c.in_ok-gather_chunk.ensures.width ∙ c.loop-chunk.invariant.width;
  kept = c.in_ok-gather_chunk.ensures.kept ∙ c.loop-chunk.invariant.kept;
}
