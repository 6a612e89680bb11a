use Rattle.std.proofs.Common.{◌≡◌, ◌++◌}
use Rattle.hy_world.specs.Finished.{gathered_in}
use Rattle.hy_world.proofs.finishing.gather_chunks.Given as goal

abbrev pub invariant-loop-chunk : goal.invariant-loop-chunk
invariant-loop-chunk l = record {
  rows : l.gathered.rows ≡ l.fn.gathered.rows ++ gathered_in l.viewer l.fn.chunks.items l.first l.chunk;
  width : l.gathered.width ≡ l.fn.gathered.width;
  kept : l.chunks.items ≡ l.fn.chunks.items;
}
