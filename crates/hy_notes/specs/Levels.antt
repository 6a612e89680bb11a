-- Levels: what is noted since certain moments. In memory there is but what stood before, by stretches of time; which
-- row came after is told by the notes of the whole transaction.
use Rattle.std.specs.Prelude.{◌≡◌, ℕ, ◌≤◌, List, [], ◌∷◌, ◌++◌, Option, None, Some, length, drop, map, option_map, if◌then◌else◌, ◌&&◌, ◌==◌}
use Rattle.std.specs.List.{flat_map, AllByRecursion}
use Rattle.std.specs.Option.{option_or, unwrap_or}
use Rattle.hy_value.specs.declared.change.Change.{Change}
use Rattle.hy_notes.specs.declared.blocks.Blocks.{Blocks}
use Rattle.hy_notes.specs.declared.levels.Levels.{Levels}
use Rattle.hy_notes.specs.Notes.{Cell, Ascends, note_at}
use Rattle.hy_notes.specs.Blocks.{notes_in, AreBlocks}

-- the row before that notes tell of a position, if they note it
abbrev pub before_at : List Change → ℕ → ℕ → Option Cell
before_at notes table pos = option_map (λ (pair : Cell × Cell). pair.0) (note_at notes table pos)

-- the row before of a note, if there is one
abbrev pub before_in : Option Change → Option Cell
before_in note = option_map (λ (n : Change). n.before) note

-- what stood at a position before the first of these stretches that notes it
abbrev pub was_at : List (List Change) → ℕ → ℕ → Option Cell
was_at [] table pos = None
was_at (stretch ∷ stretches) table pos = option_or (before_at stretch table pos) (was_at stretches table pos)

-- a note with the row that stood before, if something was noted of its position
abbrev pub note_from : Option Cell → Change → List Change
note_from None note = []
note_from (Some before) note = record note { before = before } ∷ []

-- the notes since these stretches began: those of positions that they note
abbrev pub noted_since : List (List Change) → List Change → List Change
noted_since stretches notes = flat_map (λ note. note_from (was_at stretches note.table note.pos) note) notes

-- what is told of a position where a row that stands there is noted, unless one is noted already
abbrev pub first_told : ℕ → ℕ → Cell → ℕ → ℕ → Option Cell → Option Cell
first_told at_table at_pos before table pos told = if at_table == table && at_pos == pos then Some (unwrap_or told before) else told

-- the stretches, the first one first
abbrev pub stretches_in : Levels → List (List Change)
stretches_in levels = map notes_in levels.older.items ++ notes_in levels.newest ∷ []

-- the notes of each level, by all of the transaction
abbrev pub levels_of : Levels → List Change → List (List Change)
levels_of levels notes = map (λ begin. noted_since (drop begin (stretches_in levels)) notes) levels.begins.items

-- what a stretch notes stands in order
pub record IsStretch (blocks : Blocks) : Type 0 where
  pub sound : AreBlocks blocks
  pub ascends : Ascends (notes_in blocks)

-- stretches, and levels that begin with them
pub record AreLevels (levels : Levels) : Type 0 where
  pub older : AllByRecursion IsStretch levels.older.items
  pub newest : IsStretch levels.newest
  pub begins : AllByRecursion (λ begin. begin ≤ length levels.older.items) levels.begins.items

-- what the stretches note the transaction notes too
abbrev pub AreCovered : List (List Change) → List Change → Type 0
AreCovered stretches notes = (table pos : ℕ) → note_at notes table pos ≡ None → was_at stretches table pos ≡ None
