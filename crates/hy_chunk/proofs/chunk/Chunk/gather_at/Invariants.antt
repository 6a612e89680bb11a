use Rattle.std.proofs.Common.{◌≡◌, ◌++◌, length, take}
use Rattle.std.specs.List.{flat_map}
use Rattle.hy_undo.specs.Places.{sees}
use Rattle.hy_chunk.specs.Fields.{nth}
use Rattle.hy_chunk.specs.Gathering.{kept_by, conditions_of}
use Rattle.hy_chunk.specs.Settled.{Settles}
use Rattle.hy_chunk.proofs.chunk.Chunk.gather_at.Given as goal

abbrev pub invariant-loop-i : goal.invariant-loop-i
invariant-loop-i l = record {
  table : l.self-inside.table ≡ l.initial.self-inside.table;
  first : l.self-inside.first ≡ l.initial.self-inside.first;
  positions : l.self-inside.positions ≡ l.initial.self-inside.positions;
  next : length l.self-inside.next.row ≡ length l.initial.self-inside.positions.kinds;
  wide : length l.self-inside.seen.row ≡ length l.initial.self-inside.positions.kinds;
  settles : Settles l.self-inside.settled l.self-inside.positions.places;
  rows : l.gathered.rows ≡ l.initial.gathered.rows
      ++ flat_map (λ place. kept_by l.wanted.columns (conditions_of l.wanted.pred.now l.wanted.keys)
      (sees l.viewer (nth l.initial.self-inside.positions.places place))) (take l.i l.places);
  width : l.gathered.width ≡ l.initial.gathered.width;
}
