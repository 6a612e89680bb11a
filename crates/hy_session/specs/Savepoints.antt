-- The savepoints of an open transaction, by their names and by what was noted since each; and which of its positions are sought.
use Rattle.std.specs.Prelude.{ℕ, ◌+◌, List, [], ◌∷◌, ◌++◌, Option, None, Some, filter, length, map, slice_get}
use Rattle.std.specs.Option.{option_map, unwrap_or}
use Rattle.hy_value.specs.declared.change.Change.{Change}
use Rattle.hy_bound.specs.declared.Bound.{Bound}
use Rattle.hy_bound.specs.declared.Bound.TheVariants.{Select, Group, Insert, Update, Delete, Savepoint, RollbackTo, Release}
use Rattle.hy_bound.specs.Savepoints.{Saved}
use Rattle.hy_notes.specs.Notes.{is_between}
use Rattle.hy_undo.specs.Chunks.{ChunkData}
use Rattle.hy_render.specs.declared.Place.{Place}
use Rattle.hy_event.specs.declared.Open.{Open}
use Rattle.hy_event.specs.declared.SavedNotes.{SavedNotes}
use Rattle.hy_event.specs.Sessions.{place_noted, written}

-- names, and the notes since each
abbrev pub savepoints : List (Saved (Unit {0})) → List (List Change) → List SavedNotes
savepoints [] levels = []
savepoints (name ∷ names) [] = []
savepoints (name ∷ names) (since ∷ levels) = record { name = name.name; since = since } ∷ savepoints names levels

-- what was noted since the savepoint of this number
abbrev pub noted_since : List SavedNotes → ℕ → List Change
noted_since saved number = unwrap_or (option_map (λ (one : SavedNotes). one.since) (slice_get saved number)) []

-- the positions that an open transaction wrote, or those that it wrote since its savepoint of this number
abbrev pub places_since : Open → Option ℕ → List Place
places_since now None = written now
places_since now (Some number) = map place_noted (noted_since now.saved number)

-- the notes of a chunk among these
abbrev pub notes_in_chunk : List Change → ChunkData → List Change
notes_in_chunk notes chunk = filter (is_between chunk.table chunk.first (chunk.first + length chunk.places)) notes

-- the levels that are there when a statement has opened one, if it opens one
abbrev pub opened_by : Bound → List (List Change) → List (List Change)
opened_by (Select tables ons pred items) levels = levels
opened_by (Group table pred key aggregate) levels = levels
opened_by (Insert table row) levels = levels
opened_by (Update table sets pred) levels = levels
opened_by (Delete table pred) levels = levels
opened_by (Savepoint name) levels = levels ++ [] ∷ []
opened_by (RollbackTo name) levels = levels
opened_by (Release name) levels = levels
