-- What contracts see of a world, and what holds of it at all times.
use Rattle.std.specs.Prelude.{◌≡◌, ℕ, ◌+◌, ◌*◌, ◌<◌, List, [], ◌∷◌, ◌++◌, Some, map, slice_get, slice_index_or, length, refl}
use Rattle.std.specs.List.{range_with_len}
use Rattle.std.specs.Coded.{Coded, code_by, coded×, coded_list, coded_ℕ}
use Rattle.hy_value.specs.declared.Kind.{Kind}
use Rattle.hy_value.specs.contracts.Kind as kind
use Rattle.hy_bound.specs.declared.Shape.{Shape}
use Rattle.hy_journal.specs.declared.CoreData.{CoreData}
use Rattle.hy_journal.specs.contracts.CoreData as core_data
use Rattle.hy_undo.specs.Chunks.{ChunkData}
use Rattle.hy_chunk.specs.Views.{Whole, data_code}
use Rattle.hy_event.specs.declared.SessionData.{SessionData}
use Rattle.hy_event.specs.contracts.SessionData as session_data
use Rattle.hy_event.specs.Events.{Part, ChunkPart, CorePart}
use Rattle.hy_machine.specs.declared.Setting.{Setting}
use Rattle.hy_machine.specs.States.{State}
use Rattle.hy_stepping.specs.Typed.{AreTyped, kinds_of}
use Rattle.hy_stepping.specs.Runnable.{IsShown}

-- how many tables there are, how many chunks each has, the types of each table's columns, the chunks by table, the core, and the sessions
pub record WorldData : Type 0 where
  pub tables : ℕ
  pub per_table : ℕ
  pub kinds : List (List Kind)
  pub chunks : List ChunkData
  pub core : CoreData
  pub sessions : List SessionData

abbrev pub world_code : Coded WorldData
world_code =
    code_by (ℕ × (ℕ × (List (List Kind) × (List ChunkData × (CoreData × List SessionData)))))
    (coded× coded_ℕ (coded× coded_ℕ (coded× (coded_list (coded_list kind.the_row.coded))
    (coded× (coded_list data_code) (coded× core_data.the_row.coded (coded_list session_data.the_row.coded))))))
    (λ w. (w.tables, (w.per_table, (w.kinds, (w.chunks, (w.core, w.sessions))))))
    (λ p. record { tables = p.0; per_table = p.1.0; kinds = p.1.1.0; chunks = p.1.1.1.0; core = p.1.1.1.1.0; sessions = p.1.1.1.1.1 }) (λ _. refl)

-- the parts, the core last
abbrev pub parts_of : List ChunkData → CoreData → List Part
parts_of chunks core = map ChunkPart chunks ++ CorePart core ∷ []

-- a world shows a state of the machine
pub record ShowsState (setting : Setting) (state : State) (world : WorldData) : Type 0 where
  pub tables : length setting.shapes ≡ world.tables
  pub per_table : setting.chunks ≡ world.per_table
  pub shown : IsShown setting state (parts_of world.chunks world.core) world.sessions

-- the plain data of chunks
abbrev pub plain : List Whole → List ChunkData
plain chunks = map (λ chunk. chunk.shown) chunks

-- the types of chunks' columns
abbrev pub kinds_in : List Whole → List (List Kind)
kinds_in chunks = map (λ chunk. chunk.kinds) chunks

-- the types of the columns of so many tables of so many chunks: those of each one's first chunk
abbrev pub kinds_by_table : ℕ → ℕ → List (List Kind) → List (List Kind)
kinds_by_table tables per_table types = map (λ table. slice_index_or types (table * per_table) []) (range_with_len 0 tables)

-- what contracts see of these fields of a world
abbrev pub seen_world : ℕ → ℕ → List Whole → CoreData → List SessionData → WorldData
seen_world tables per_table chunks core sessions = record {
  tables = tables;
  per_table = per_table;
  kinds = kinds_by_table tables per_table (kinds_in chunks);
  chunks = plain chunks;
  core = core;
  sessions = sessions;
}

-- each chunk has the types of its table
abbrev pub HaveTypes : List (List Kind) → ℕ → List Whole → Type 0
HaveTypes kinds per_table chunks =
    (table chunk : ℕ) (part : Whole) → chunk < per_table → slice_get chunks (table * per_table + chunk) ≡ Some part → part.kinds ≡ kinds_of kinds table

-- some state that the machine comes to is shown, of a setting that has these tables and whose values are of the chunks' types
pub record IsWorld (shapes : List Shape) (tables per_table : ℕ) (chunks : List Whole) (core : CoreData) (sessions : List SessionData) : Type 0 where
  pub setting : Setting
  pub kinds : List (List Kind)
  pub state : State
  pub shapes_are : setting.shapes ≡ shapes
  pub typed : AreTyped kinds setting.shapes setting.first setting.programs
  pub types : HaveTypes kinds per_table chunks
  pub shows : ShowsState setting state (seen_world tables per_table chunks core sessions)
