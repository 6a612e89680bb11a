use Rattle.std.proofs.Common.{◌≡◌, ◌≤◌, ◌-◌, ◌++◌, length, take, drop}
use Rattle.hy_undo.specs.Chunks.{rows_seen}
use Rattle.hy_chunk.specs.Gathering.{gathered_by, conditions_of}
use Rattle.hy_chunk.specs.Settled.{Settles}
use Rattle.hy_chunk.proofs.chunk.Chunk.gather_by_row.Given as goal

abbrev pub invariant-loop-place : goal.invariant-loop-place
invariant-loop-place l = record {
  table : l.self-inside.table ≡ l.initial.self-inside.table;
  first : l.self-inside.first ≡ l.initial.self-inside.first;
  key : l.self-inside.positions.key ≡ l.initial.self-inside.positions.key;
  positions : l.self-inside.positions ≡ l.initial.self-inside.positions;
  next : length l.self-inside.next.row ≡ length l.initial.self-inside.positions.kinds;
  wide : length l.self-inside.seen.row ≡ length l.initial.self-inside.positions.kinds;
  settles : Settles l.self-inside.settled l.self-inside.positions.places;
  least : l.scan.part.first ≤ l.place;
  most : l.place ≤ l.scan.part.end;
  rows : l.gathered.rows ≡ l.initial.gathered.rows ++ gathered_by l.wanted.columns (conditions_of l.wanted.pred.now l.wanted.keys)
      (rows_seen l.viewer (take (l.place - l.scan.part.first) (drop l.scan.part.first l.initial.self-inside.positions.places)));
  width : l.gathered.width ≡ l.initial.gathered.width;
}
