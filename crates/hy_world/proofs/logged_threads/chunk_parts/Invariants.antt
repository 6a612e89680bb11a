use Rattle.std.proofs.Common.{◌≡◌, ◌++◌, map}
use Rattle.std.specs.Vec.Iter.{into_iter_items}
use Rattle.hy_world.specs.declared.grouped.LoggedPart.TheVariants as part
use Rattle.hy_world.proofs.logged_threads.chunk_parts.Given as goal

abbrev pub invariant-loop-part : goal.invariant-loop-part
invariant-loop-part g l = l.all.items ++ map part.Chunk (into_iter_items l.part-iterator) ≡ map part.Chunk l.fn.parts.items
