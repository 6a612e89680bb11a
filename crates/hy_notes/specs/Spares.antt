-- Spare buffers for rows.
use Rattle.std.specs.Prelude.{ℕ, ◌-◌, ◌≤◌, ◌/◌, ◌^◌, ◌&&◌, ◌==◌, List, Option, None, Some, length, min, Bool, nat_le, nat_lt, vec_len, if◌then◌else◌, refl}
use Rattle.std.specs.List.{AllByRecursion}
use Rattle.std.specs.Coded.{Coded, code_by, coded×, coded_ℕ}
use Rattle.hy_value.specs.declared.Value.{Value}
use Rattle.hy_value.specs.Cells.{texts_in}
use Rattle.hy_value.specs.Roomy.{Roomy}
use Rattle.hy_notes.specs.declared.blocks.Blocks.{Blocks}
use Rattle.hy_notes.specs.declared.levels.Levels.{Levels}

-- how many rows a note takes at most: its row before and its row after, and one more where a level is open
abbrev pub rows_by : Bool → ℕ
rows_by opened = if opened then 3 else 2

-- for how many more notes there is room where there is room for so many notes, and as many in the newest stretch of levels
abbrev pub room_by : Bool → ℕ → ℕ → ℕ → ℕ
room_by opened notes stretch spare = if opened then min notes (min stretch (spare / 3)) else min notes (spare / 2)

-- for how many more notes there is room
abbrev pub rooms : Blocks → Levels → ℕ → ℕ
rooms notes levels spare = room_by (nat_lt 0 (vec_len levels.begins)) (notes.limit - notes.count) (levels.newest.limit - levels.newest.count) spare

-- what contracts see of spare rows: how many rows of up to so many values, of which so many are texts, can be kept
pub record Spare : Type 0 where
  pub rows : ℕ
  pub width : ℕ
  pub texts : ℕ

-- they are stored as these
abbrev pub spare_code : Coded Spare
spare_code =
    code_by (ℕ × (ℕ × ℕ)) (coded× coded_ℕ (coded× coded_ℕ coded_ℕ)) (λ s. (s.rows, (s.width, s.texts)))
    (λ p. record { rows = p.0; width = p.1.0; texts = p.1.1 }) (λ _. refl)

-- whether a row of so many values, of which so many are texts, takes no block
abbrev pub takes_no_block : ℕ → ℕ → Bool
takes_no_block width texts = nat_le width 4 && texts == 0

-- how many rows can be kept: as many as can be counted where they take no block, else one in each buffer
abbrev pub rows_by_block : Bool → ℕ → ℕ
rows_by_block none buffers = if none then 2 ^ 64 - 1 else buffers

abbrev pub rows_of : ℕ → ℕ → ℕ → ℕ
rows_of width texts buffers = rows_by_block (takes_no_block width texts) buffers

-- a buffer has room for so many values, of which so many are texts
pub record IsSpare (width texts : ℕ) (buffer : Roomy) : Type 0 where
  pub wide : width ≤ buffer.room
  pub long : texts ≤ buffer.texts

abbrev pub AreSpare : ℕ → ℕ → List Roomy → Type 0
AreSpare width texts spare = AllByRecursion (IsSpare width texts) spare

-- how many values a row has that is there or not, how many texts, and how many buffers it takes
abbrev pub cell_width : Option (List Value) → ℕ
cell_width None = 0
cell_width (Some row) = length row

abbrev pub cell_texts : Option (List Value) → ℕ
cell_texts None = 0
cell_texts (Some row) = texts_in row

abbrev pub cell_rows : Option (List Value) → ℕ
cell_rows None = 0
cell_rows (Some row) = 1
