use Rattle.std.proofs.Common.{◌≡◌, ◌+◌, length, drop}
use Rattle.hy_undo.specs.Sweeps.{swept}
use Rattle.hy_chunk.specs.Writes.{sets_of, refusal_in}
use Rattle.hy_chunk.proofs.Candidates.{reach}
use Rattle.hy_chunk.specs.Settled.{Settles}
use Rattle.hy_chunk.proofs.chunk.Chunk.refusal.Given as goal

-- what is left is refused as all is
abbrev pub invariant-loop-i : goal.invariant-loop-i
invariant-loop-i l = record {
  table : l.self-inside.table ≡ l.initial.self-inside.table;
  first : l.self-inside.first ≡ l.initial.self-inside.first;
  key : l.self-inside.positions.key ≡ l.initial.self-inside.positions.key;
  positions : l.self-inside.positions ≡ l.initial.self-inside.positions;
  next : length l.self-inside.next.row ≡ length l.initial.self-inside.positions.kinds;
  wide : length l.self-inside.seen.row ≡ length l.initial.self-inside.positions.kinds;
  settles : Settles l.self-inside.settled l.self-inside.positions.places;
  rest : refusal_in (swept (sets_of l.sweep.kind) l.sweep.pred.now l.sweep.viewer.now
      (l.initial.self-inside.first + reach l.sweep.places.now l.initial.self-inside.positions.places l.i)
      (drop (reach l.sweep.places.now l.initial.self-inside.positions.places l.i) l.initial.self-inside.positions.places))
      ≡ refusal_in (swept (sets_of l.sweep.kind) l.sweep.pred.now l.sweep.viewer.now l.initial.self-inside.first l.initial.self-inside.positions.places);
}
