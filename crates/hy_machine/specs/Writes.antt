-- What a transaction wrote: its own cells, their places, and their chunks.
use Rattle.std.specs.Prelude.{ℕ, suc, List, [], ◌∷◌, ◌++◌, Bool, not, ◌&&◌}
use Rattle.std.specs.Prelude.{◌==◌, Option, None, Some, is_some, map, filter, replicate, slice_index_or, slice_set}
use Rattle.std.specs.List.{list_any, range_with_len}
use Rattle.hy_render.specs.declared.Place.{Place}
use Rattle.hy_machine.specs.declared.Setting.{Setting}
use Rattle.hy_machine.specs.Positions.{by_place}
use Rattle.hy_machine.specs.Tables.{Cell, Own, capacity, positions_in}

-- that a transaction writes a cell at a position: the row that stands there from then on, or none
pub record Write : Type 0 where
  pub table : ℕ
  pub pos : ℕ
  pub cell : Cell

-- nothing is written
abbrev pub blank_own : Setting → Own
blank_own setting = map (λ rows. replicate (capacity setting) None) setting.first

-- a cell is written at a position
abbrev pub with_write : Own → Write → Own
with_write own write = slice_set own write.table (slice_set (slice_index_or own write.table []) write.pos (Some write.cell))

-- writes, one after another
abbrev pub with_writes : Own → List Write → Own
with_writes own [] = own
with_writes own (write ∷ writes) = with_writes (with_write own write) writes

-- what was written, and these writes behind it, one after another
abbrev pub with_trail : List Write → List Write → List Write
with_trail trail [] = trail
with_trail trail (write ∷ writes) = with_trail (trail ++ write ∷ []) writes

-- whether a transaction wrote nothing
abbrev pub wrote_nothing : Own → Bool
wrote_nothing own = not (list_any (list_any is_some) own)

-- the place of a cell that was written
abbrev pub place_at : ℕ → ℕ → Cell → List Place
place_at table pos cell = record { table = table; pos = pos } ∷ []

-- the places that a transaction wrote, by table and then position
abbrev pub written : Own → List Place
written own = by_place place_at own

-- whether a transaction that wrote these cells of a table wrote in a chunk
abbrev pub has_written_in : Setting → List (Option Cell) → ℕ → Bool
has_written_in setting cells chunk = list_any (λ pos. is_some (slice_index_or cells pos None)) (positions_in setting chunk)

-- the chunks of a table in which a transaction wrote, ascending
abbrev pub chunks_in_table : Setting → ℕ → List (Option Cell) → List (ℕ × ℕ)
chunks_in_table setting table cells = map (λ chunk. (table, chunk)) (filter (has_written_in setting cells) (range_with_len 0 setting.chunks))

abbrev pub chunks_from : Setting → ℕ → Own → List (ℕ × ℕ)
chunks_from setting table [] = []
chunks_from setting table (cells ∷ own) = chunks_in_table setting table cells ++ chunks_from setting (suc table) own

-- the chunks in which a transaction wrote, by table and then chunk
abbrev pub written_chunks : Setting → Own → List (ℕ × ℕ)
written_chunks setting own = chunks_from setting 0 own

-- whether a chunk is among these
abbrev pub is_among : List (ℕ × ℕ) → ℕ → ℕ → Bool
is_among chunks table chunk = list_any (λ one. one.0 == table && one.1 == chunk) chunks
