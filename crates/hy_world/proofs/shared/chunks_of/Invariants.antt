use Rattle.std.proofs.Common.{◌≡◌, ◌++◌, map}
use Rattle.std.specs.List.{AllByRecursion}
use Rattle.std.specs.Vec.Iter.{into_iter_items}
use Rattle.hy_world.specs.Shared.{IsChunk, chunk_shared}
use Rattle.hy_world.proofs.shared.chunks_of.Given as goal

-- the parts that are left are chunks
abbrev pub invariant-loop-part : goal.invariant-loop-part
invariant-loop-part l =
    (map chunk_shared l.chunks.items ++ into_iter_items l.part-iterator ≡ l.fn.parts.items)
    × AllByRecursion IsChunk (into_iter_items l.part-iterator)
