-- Parallel fields, seen as positions.
use Rattle.std.specs.Prelude.{ℕ, List, [], Bool, false, map, length, slice_index_or}
use Rattle.std.specs.List.{range_with_len}
use Rattle.hy_value.specs.declared.Value.{Value}
use Rattle.hy_value.specs.declared.Kind.{Kind}
use Rattle.hy_chain.specs.Chains.{Undo}
use Rattle.hy_column.specs.Cells.{first_value}
use Rattle.hy_undo.specs.Images.{Image}
use Rattle.hy_undo.specs.Places.{Place}

-- the position of this number
abbrev pub place_at : List (List Value) → List Bool → List Bool → List ℕ → List (List (Undo Image)) → ℕ → Place
place_at rows live used deaths chains place = record {
  version = record { row = slice_index_or rows place []; live = slice_index_or live place false };
  used = slice_index_or used place false;
  death = slice_index_or deaths place 0;
  chain = slice_index_or chains place [];
}

-- all positions, as many as there are rows
abbrev pub places_of : List (List Value) → List Bool → List Bool → List ℕ → List (List (Undo Image)) → List Place
places_of rows live used deaths chains = map (place_at rows live used deaths chains) (range_with_len 0 (length rows))

-- a position that was never used, with these values
abbrev pub blank_with : List Value → Place
blank_with row = record { version = record { row = row; live = false }; used = false; death = 0; chain = [] }

-- a position of columns of these types that was never used
abbrev pub blank_place : List Kind → Place
blank_place kinds = blank_with (map first_value kinds)

-- the position of this number among many
abbrev pub nth : List Place → ℕ → Place
nth places place = slice_index_or places place (blank_with [])
