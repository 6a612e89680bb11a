-- What the chunks and the sessions of a world are before anything has happened.
use Rattle.std.specs.Prelude.{◌≡◌, ℕ, suc, ◌+◌, ◌-◌, ◌*◌, ◌<◌, List, [], ◌∷◌, ◌++◌, Bool, true, None, Some}
use Rattle.std.specs.Prelude.{map, take, drop, replicate, slice_get, slice_index_or, length}
use Rattle.hy_value.specs.declared.Kind.{Kind}
use Rattle.hy_value.specs.declared.Value.{Value}
use Rattle.hy_bound.specs.declared.Shape.{Shape}
use Rattle.hy_bound.specs.declared.Txn.{Txn}
use Rattle.hy_bound.specs.Records.{shape_of}
use Rattle.hy_undo.specs.Places.{Place}
use Rattle.hy_undo.specs.Chunks.{ChunkData}
use Rattle.hy_chunk.specs.Fields.{blank_place}
use Rattle.hy_chunk.specs.Views.{Whole}
use Rattle.hy_event.specs.declared.SessionData.{SessionData}
use Rattle.hy_machine.specs.declared.Setting.{Setting}
use Rattle.hy_session.specs.declared.Layout.{Layout}
use Rattle.hy_stepping.specs.Typed.{kinds_of}
use Rattle.hy_refinement.specs.Shows.{blank_core}
use Rattle.hy_world.specs.declared.opening.Opened.{Opened}

-- ---- chunks

-- a position with a first row
abbrev pub first_place : List Value → Place
first_place row = record { version = record { row = row; live = true }; used = true; death = 0; chain = [] }

-- so many positions, the first of them with rows
abbrev pub places_with : List Kind → ℕ → List (List Value) → List Place
places_with kinds count rows = map first_place rows ++ replicate (count - length rows) (blank_place kinds)

-- the first rows of a table
abbrev pub first_rows : List (List (List Value)) → ℕ → List (List Value)
first_rows first table = slice_index_or first table []

-- those of them that lie in a chunk
abbrev pub rows_in : Setting → ℕ → ℕ → List (List Value)
rows_in setting table chunk = take setting.rows (drop (chunk * setting.rows) (first_rows setting.first table))

abbrev pub laid_chunk : Setting → List (List Kind) → ℕ → ℕ → ChunkData
laid_chunk setting kinds table chunk = record {
  table = table;
  first = chunk * setting.rows;
  width = length (kinds_of kinds table);
  key = (shape_of setting.shapes table).key;
  places = places_with (kinds_of kinds table) setting.rows (rows_in setting table chunk);
}

-- a chunk of a table has its first rows, and the table's types
pub record IsLaid (setting : Setting) (kinds : List (List Kind)) (table chunk : ℕ) (part : Whole) : Type 0 where
  pub shown : part.shown ≡ laid_chunk setting kinds table chunk
  pub types : part.kinds ≡ kinds_of kinds table

-- so have so many chunks, by table and then number
pub record AreLaid (setting : Setting) (kinds : List (List Kind)) (count : ℕ) (chunks : List Whole) : Type 0 where
  pub many : length chunks ≡ count
  pub each : (table chunk : ℕ) (part : Whole) → chunk < setting.chunks → slice_get chunks (table * setting.chunks + chunk) ≡ Some part
      → IsLaid setting kinds table chunk part

-- ---- sessions

-- a session that has done nothing
abbrev pub new_session : List Shape → Layout → Bool → ℕ → List Txn → SessionData
new_session shapes layout prunes number program = record {
  number = number;
  program = program;
  shapes = shapes;
  chunks = layout.chunks;
  rows = layout.rows;
  prunes = prunes;
  done = [];
  now = None;
}

-- a session for each program, the first of them of this number
abbrev pub sessions_from : List Shape → Layout → Bool → ℕ → List (List Txn) → List SessionData
sessions_from shapes layout prunes number [] = []
sessions_from shapes layout prunes number (program ∷ programs) =
    new_session shapes layout prunes number program ∷ sessions_from shapes layout prunes (suc number) programs

-- which sessions prune the chunks that they write
abbrev pub prunings : List SessionData → List Bool
prunings sessions = map (λ session. session.prunes) sessions

-- ---- all of them

abbrev pub layout_of : Setting → Layout
layout_of setting = record { chunks = setting.chunks; rows = setting.rows }

-- the chunks have the first rows, the core is blank, and the sessions have done nothing
pub record IsOpened (setting : Setting) (kinds : List (List Kind)) (prunes : Bool) (opened : Opened) : Type 0 where
  pub shapes : opened.shapes ≡ setting.shapes
  pub per_table : opened.per_table ≡ setting.chunks
  pub laid : AreLaid setting kinds (length setting.shapes * setting.chunks) opened.chunks.items
  pub core : opened.core ≡ blank_core
  pub sessions : opened.sessions.items ≡ sessions_from setting.shapes (layout_of setting) prunes 0 setting.programs
