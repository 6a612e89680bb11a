use Rattle.std.proofs.Common.{◌≡◌, ◌≤◌, length}
use Rattle.hy_chunk.specs.Settled.{Settles}
use Rattle.hy_chunk.proofs.Candidates.{CandidatesTo}
use Rattle.hy_chunk.proofs.chunk.Chunk.find_by_mask.Given as goal

-- the candidates so far are found
abbrev pub invariant-loop-place : goal.invariant-loop-place
invariant-loop-place l = record {
  table : l.self-inside.table ≡ l.initial.self-inside.table;
  first : l.self-inside.first ≡ l.initial.self-inside.first;
  positions : l.self-inside.positions ≡ l.initial.self-inside.positions;
  next : length l.self-inside.next.row ≡ length l.initial.self-inside.positions.kinds;
  wide : length l.self-inside.seen.row ≡ length l.initial.self-inside.positions.kinds;
  settles : Settles l.self-inside.settled l.self-inside.positions.places;
  most : l.place ≤ length l.initial.self-inside.positions.places;
  found : CandidatesTo l.pred l.initial.self-inside.positions.places l.found.items l.place;
}
