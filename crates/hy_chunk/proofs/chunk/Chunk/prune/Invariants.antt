use Rattle.std.proofs.Common.{◌≡◌, ◌-◌, ◌≤◌, length}
use Rattle.hy_prune.specs.Fates.{watermark_of}
use Rattle.hy_undo.specs.Steps.{pruned_place}
use Rattle.hy_chunk.specs.Settled.{Settles}
use Rattle.hy_chunk.proofs.Mapped.{DoneUpTo}
use Rattle.hy_chunk.proofs.chunk.Chunk.prune.Given as goal

-- the positions so far are done
abbrev pub invariant-loop-place : goal.invariant-loop-place
invariant-loop-place l = record {
  table : l.self-inside.table ≡ l.initial.self-inside.table;
  first : l.self-inside.first ≡ l.initial.self-inside.first;
  key : l.self-inside.positions.key ≡ l.initial.self-inside.positions.key;
  kinds : l.self-inside.positions.kinds ≡ l.initial.self-inside.positions.kinds;
  next : length l.self-inside.next.row ≡ length l.initial.self-inside.positions.kinds;
  wide : length l.self-inside.seen.row ≡ length l.initial.self-inside.positions.kinds;
  walked : DoneUpTo (pruned_place l.cover) l.initial.self-inside.positions.places l.self-inside.positions.places l.place;
  settles : Settles l.self-inside.settled l.self-inside.positions.places;
  after : watermark_of l.cover ≤ l.self-inside.settled.after;
  room : l.initial.self-inside.positions.room ≤ l.self-inside.positions.room;
}

abbrev pub decreases-loop-place : goal.decreases-loop-place
decreases-loop-place l = l.end - l.place
