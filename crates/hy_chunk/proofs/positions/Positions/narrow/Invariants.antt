use Rattle.hy_chunk.proofs.Ranges.{CoversUpTo}
use Rattle.hy_chunk.proofs.positions.Positions.narrow.Given as goal

-- the positions so far have no record, or are of the range
abbrev pub invariant-loop-place : goal.invariant-loop-place
invariant-loop-place l = CoversUpTo l.left l.self-inside.chains.chains l.place
