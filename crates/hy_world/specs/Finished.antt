-- What is read back of a world that has ended.
use Rattle.std.specs.Prelude.{◌≡◌, ℕ, ◌+◌, ◌*◌, ◌<◌, List, [], Option, None, Some, map, slice_get, length}
use Rattle.std.specs.List.{flat_map, range_with_len}
use Rattle.hy_value.specs.declared.Value.{Value}
use Rattle.hy_value.specs.declared.ColMask.{ColMask}
use Rattle.hy_value.specs.Sorted.{sorted}
use Rattle.hy_bound.specs.declared.Shape.{Shape}
use Rattle.hy_bound.specs.Condition.{True}
use Rattle.hy_bound.specs.Projection.{projected, spread}
use Rattle.hy_bound.specs.Records.{shape_of}
use Rattle.hy_stamp.specs.declared.Viewer.{Viewer}
use Rattle.hy_undo.specs.Places.{Place}
use Rattle.hy_undo.specs.Chunks.{rows_seen}
use Rattle.hy_chunk.specs.Gathering.{gathered_of}
use Rattle.hy_chunk.specs.Sound.{FitsRow}
use Rattle.hy_chunk.specs.Views.{Whole}

-- every column that a table may have
abbrev pub every_column : ColMask
every_column = record { 0 = 4294967295 }

abbrev pub places_of : Option Whole → List Place
places_of None = []
places_of (Some part) = part.shown.places

-- the rows that a viewer sees in the chunk of a number
abbrev pub gathered_at : Viewer → List Whole → ℕ → List (List Value)
gathered_at viewer chunks number = gathered_of every_column True (rows_seen viewer (places_of (slice_get chunks number)))

-- in so many chunks from one on
abbrev pub gathered_in : Viewer → List Whole → ℕ → ℕ → List (List Value)
gathered_in viewer chunks first count = flat_map (λ chunk. gathered_at viewer chunks (first + chunk)) (range_with_len 0 count)

-- read back as rows of so many columns, ascending
abbrev pub read_back : ℕ → List (List Value) → List (List Value)
read_back width rows = sorted (map (spread every_column width) rows)

-- of a table of so many chunks
abbrev pub table_back : Viewer → List Whole → List Shape → ℕ → ℕ → List (List Value)
table_back viewer chunks shapes per_table table =
    read_back (shape_of shapes table).width (gathered_in viewer chunks (table * per_table) per_table)

-- of the first tables
abbrev pub tables_back : Viewer → List Whole → List Shape → ℕ → ℕ → List (List (List Value))
tables_back viewer chunks shapes per_table tables = map (table_back viewer chunks shapes per_table) (range_with_len 0 tables)

-- ---- widths

-- rows of a chunk's types have so many columns, all of which are taken
abbrev pub HasWidth : ℕ → Whole → Type 0
HasWidth width part = (row : List Value) → FitsRow part.kinds row → length (projected every_column row) ≡ width

-- so it is for so many chunks from one on
abbrev pub HaveWidth : ℕ → List Whole → ℕ → ℕ → Type 0
HaveWidth width chunks first count =
    (chunk : ℕ) (part : Whole) → chunk < count → slice_get chunks (first + chunk) ≡ Some part → HasWidth width part

-- and for the chunks of each table
abbrev pub HaveTheirWidths : List Shape → ℕ → List Whole → Type 0
HaveTheirWidths shapes per_table chunks =
    (table : ℕ) → table < length shapes → HaveWidth (shape_of shapes table).width chunks (table * per_table) per_table
