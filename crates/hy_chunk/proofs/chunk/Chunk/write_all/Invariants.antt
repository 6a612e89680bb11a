use Rattle.std.proofs.Common.{◌≡◌, ◌+◌, ◌≤◌, length}
use Rattle.hy_chunk.specs.Writes.{sets_of}
use Rattle.hy_chunk.proofs.Candidates.{reach}
use Rattle.hy_chunk.proofs.SweepSteps.{SweptTo, InLevels}
use Rattle.hy_chunk.specs.Settled.{Settles}
use Rattle.hy_chunk.proofs.chunk.Chunk.write_all.Given as goal

-- the positions up to the next candidate are written as they were judged, and the others are as they were
abbrev pub invariant-loop-i : goal.invariant-loop-i
invariant-loop-i l = record {
  table : l.self-inside.table ≡ l.initial.self-inside.table;
  first : l.self-inside.first ≡ l.initial.self-inside.first;
  key : l.self-inside.positions.key ≡ l.initial.self-inside.positions.key;
  kinds : l.self-inside.positions.kinds ≡ l.initial.self-inside.positions.kinds;
  next : length l.self-inside.next.row ≡ length l.initial.self-inside.positions.kinds;
  wide : length l.self-inside.seen.row ≡ length l.initial.self-inside.positions.kinds;
  settles : Settles l.self-inside.settled l.self-inside.positions.places;
  sweep : SweptTo (sets_of l.sweep.kind) l.sweep.pred.now l.sweep.viewer.now l.label l.initial.self-inside.table l.initial.self-inside.first
      l.initial.self-inside.positions.places l.initial.changes.notes l.self-inside.positions.places l.changes.notes l.written
      (reach l.sweep.places.now l.initial.self-inside.positions.places l.i);
  levels : InLevels (sets_of l.sweep.kind) l.sweep.pred.now l.sweep.viewer.now l.label l.initial.self-inside.table l.initial.self-inside.first
      l.initial.self-inside.positions.places l.initial.changes.notes l.initial.changes.levels l.changes.levels
      (reach l.sweep.places.now l.initial.self-inside.positions.places l.i);
  room : l.initial.self-inside.positions.room ≤ l.self-inside.positions.room + l.i;
  notes_room : l.initial.changes.room ≤ l.changes.room + l.i;
  notes_width : l.changes.width ≡ l.initial.changes.width;
  notes_texts : l.changes.texts ≡ l.initial.changes.texts;
}
