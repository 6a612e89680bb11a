-- The positions of a part of a chunk.
use Rattle.std.specs.Prelude.{◌≡◌, ◌<◌, ◌≤◌, ◌^◌, ℕ, ◌-◌, List, Bool, false, ◌&&◌, length, take, drop, filter, slice_index_or}
use Rattle.std.specs.List.{range_with_len}
use Rattle.hy_undo.specs.Places.{Place}
use Rattle.hy_chunk.specs.Fields.{nth}

-- those from one number up to, and without, another
abbrev pub part_of : ℕ → ℕ → List Place → List Place
part_of first end places = take (end - first) (drop first places)

-- whether a bit is set for a position, and a row is in place there
abbrev pub is_set_at : List Bool → List Place → ℕ → Bool
is_set_at mask places place = slice_index_or mask place false && (nth places place).version.live

-- the numbers of those of a part for which a bit is set and that have a row in place, in order
abbrev pub places_set : List Bool → ℕ → ℕ → List Place → List ℕ
places_set mask first end places = filter (is_set_at mask places) (range_with_len first (end - first))

-- two masks have as many bits, and a part up to an end lies within them
pub record IsCovered (mask vacant : List Bool) (end : ℕ) : Type 0 where
  pub many : length vacant ≡ length mask
  pub within : end ≤ length mask
  pub numbered : end < 2 ^ 32
