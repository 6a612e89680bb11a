-- The parts: a chunk for each chunk of each table, and the core behind them.
use Rattle.std.specs.Prelude.{◌≡◌, ℕ, suc, ◌+◌, ◌*◌, ◌<◌, List, Some, slice_get, length}
use Rattle.hy_bound.specs.Records.{shape_of}
use Rattle.hy_journal.specs.declared.CoreData.{CoreData}
use Rattle.hy_undo.specs.Places.{Place}
use Rattle.hy_undo.specs.Chunks.{ChunkData}
use Rattle.hy_event.specs.Events.{Part, ChunkPart, CorePart}
use Rattle.hy_machine.specs.declared.Setting.{Setting}

-- a part is this chunk of this table
pub record IsChunkPart (setting : Setting) (parts : List Part) (table chunk : ℕ) (part : ChunkData) : Type 0 where
  pub table_below : table < length setting.shapes
  pub chunk_below : chunk < setting.chunks
  pub found : slice_get parts (table * setting.chunks + chunk) ≡ Some (ChunkPart part)

-- a chunk of a table: its first position, its columns and key, and how many positions it has
pub record ChunkIs (setting : Setting) (table chunk : ℕ) (part : ChunkData) : Type 0 where
  pub table_is : part.table ≡ table
  pub first : part.first ≡ chunk * setting.rows
  pub width : part.width ≡ (shape_of setting.shapes table).width
  pub key : part.key ≡ (shape_of setting.shapes table).key
  pub places : length part.places ≡ setting.rows

-- the chunk of that table and number is among the parts
pub record HasChunk (setting : Setting) (parts : List Part) (table chunk : ℕ) : Type 0 where
  pub part : ChunkData
  pub is_part : IsChunkPart setting parts table chunk part
  pub chunk_is : ChunkIs setting table chunk part

pub record PartsAre (setting : Setting) (parts : List Part) (core : CoreData) : Type 0 where
  pub count : length parts ≡ suc (length setting.shapes * setting.chunks)
  pub chunks : (table chunk : ℕ) → table < length setting.shapes → chunk < setting.chunks → HasChunk setting parts table chunk
  pub core_last : slice_get parts (length setting.shapes * setting.chunks) ≡ Some (CorePart core)

-- something holds of every position of every chunk
abbrev pub OfPlaces : Setting → List Part → (ℕ → ℕ → ℕ → Place → Type 0) → Type 0
OfPlaces setting parts holds =
    (table chunk index : ℕ) (part : ChunkData) (place : Place) → IsChunkPart setting parts table chunk part → slice_get part.places index ≡ Some place
    → holds table chunk (chunk * setting.rows + index) place
