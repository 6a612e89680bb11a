use Rattle.std.proofs.Common.{◌≡◌, ◌+◌, ◌≤◌, length}
use Rattle.hy_chunk.specs.Views.{with_places}
use Rattle.hy_visit.proofs.Backs.{BackTo}
use Rattle.hy_visit.proofs.writing.back_visit.Given as goal

-- the notes so far are gone back on
abbrev pub invariant-loop-note : goal.invariant-loop-note
invariant-loop-note l = record {
  few : l.note-index ≤ length l.since;
  all : l.chunk ≡ with_places l.initial.chunk l.chunk.shown.places l.chunk.room;
  back : BackTo l.writer l.since l.initial.chunk.shown l.initial.changes.notes l.initial.changes.levels l.chunk.shown.places l.changes.notes
      l.changes.levels l.note-index;
  room : l.initial.chunk.room ≤ l.chunk.room + l.note-index;
  notes_room : l.initial.changes.room ≤ l.changes.room + l.note-index;
  notes_width : l.changes.width ≡ l.initial.changes.width;
  notes_texts : l.changes.texts ≡ l.initial.changes.texts;
}
