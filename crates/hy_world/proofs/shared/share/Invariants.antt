use Rattle.std.proofs.Common.{◌≡◌, ◌++◌, map}
use Rattle.std.specs.Vec.Iter.{into_iter_items}
use Rattle.hy_world.specs.Shared.{chunk_shared}
use Rattle.hy_world.proofs.shared.share.Given as goal

abbrev pub invariant-loop-chunk : goal.invariant-loop-chunk
invariant-loop-chunk l = l.parts.items ++ map chunk_shared (into_iter_items l.chunk-iterator) ≡ map chunk_shared l.fn.chunks.items
