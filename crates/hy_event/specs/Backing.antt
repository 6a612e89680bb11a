-- A visit of a ROLLBACK TO: what was written in the chunk since the savepoint is written back.
use Rattle.std.specs.Prelude.{ℕ, suc, List, Option, length, map}
use Rattle.std.specs.List.{range_with_len}
use Rattle.std.specs.Option.{option_map}
use Rattle.hy_value.specs.declared.change.Change.{Change}
use Rattle.hy_notes.specs.Notes.{note_at}
use Rattle.hy_undo.specs.Places.{Cell}
use Rattle.hy_undo.specs.Chunks.{ChunkData}
use Rattle.hy_undo.specs.Sweeps.{AllWritten}
use Rattle.hy_event.specs.declared.SessionData.{SessionData}
use Rattle.hy_event.specs.declared.Open.{Open}
use Rattle.hy_protocol.specs.declared.Phase.TheVariants.{Working}
use Rattle.hy_protocol.specs.declared.Progress.{Progress}
use Rattle.hy_protocol.specs.Turns.{Visits}
use Rattle.hy_event.specs.Sessions.{label_of, viewer_of, notes_since}
use Rattle.hy_event.specs.Turns.{Takes}
use Rattle.hy_event.specs.Changing.{OnlyPlaces, changes_from}

-- what these notes say was there before, at a position that is noted
abbrev pub noted_before : List Change → ℕ → ℕ → Option Cell
noted_before notes table pos = option_map (λ pair. pair.0) (note_at notes table pos)

-- the cells that are written back at the positions of a chunk
abbrev pub cells_back : List Change → ChunkData → List (Option Cell)
cells_back notes chunk = map (noted_before notes chunk.table) (range_with_len chunk.first (length chunk.places))

-- nothing is pruned first
pub record BackVisit (session : SessionData) (now : Open) (visited : ℕ) (name : List ℕ) (old : ChunkData) (progress : Progress)
    (after : SessionData) (new : ChunkData) : Type 0 where
  pub chunk : OnlyPlaces (AllWritten (viewer_of session now) (label_of session) (cells_back (notes_since now name) old)) old new
  pub turn : Takes session
      (Visits (changes_from old.table old.first (viewer_of session now) (cells_back (notes_since now name) old) old.places) (Working (suc visited) 0))
      progress after
