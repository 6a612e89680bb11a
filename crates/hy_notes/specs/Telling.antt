-- What notes tell.
use Rattle.std.specs.Prelude.{◌≡◌, ℕ, List, ◌&&◌, ◌==◌, Option, None, Some, if◌then◌else◌}
use Rattle.hy_value.specs.declared.change.Change.{Change}
use Rattle.hy_notes.specs.Notes.{Cell, Ascends, with_note, note_at}

-- the row before that stands noted, or this one
abbrev pub before_or : Cell → Option (Cell × Cell) → Cell
before_or before None = before
before_or before (Some pair) = pair.0

-- one more note tells its row after, and the row before that was noted first; elsewhere what was told
abbrev pub NotesTell : Type 0
NotesTell = (new : Change) (notes : List Change) (table pos : ℕ) → Ascends notes
    → (note_at (with_note new notes) table pos
    ≡ (if new.table == table && new.pos == pos then Some (before_or new.before (note_at notes table pos), new.after) else note_at notes table pos))
    × Ascends (with_note new notes)

-- notes that tell the same are the same
abbrev pub TellingIsOne : Type 0
TellingIsOne = (notes others : List Change) → Ascends notes → Ascends others → ((table pos : ℕ) → note_at notes table pos ≡ note_at others table pos) → notes ≡ others
