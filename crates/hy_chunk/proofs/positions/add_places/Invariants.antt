use Rattle.std.proofs.Common.{◌≡◌, ◌++◌, take}
use Rattle.hy_chunk.proofs.positions.add_places.Given as goal

abbrev pub invariant-loop-i : goal.invariant-loop-i
invariant-loop-i l = l.found.items ≡ l.initial.found.items ++ take l.i l.places
