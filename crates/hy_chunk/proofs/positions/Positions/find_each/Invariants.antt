use Rattle.hy_chunk.proofs.FoundEach.{FoundFor}
use Rattle.hy_chunk.proofs.positions.Positions.find_each.Given as goal

-- the keys so far are looked up
abbrev pub invariant-loop-value : goal.invariant-loop-value
invariant-loop-value l = FoundFor l.column l.values l.self.places l.found.items l.value-index
