-- How a visit changes a chunk: its positions alone, first of all by pruning.
use Rattle.std.specs.Prelude.{◌≡◌, ℕ, suc, List, [], ◌∷◌, ◌++◌, Bool, true, false, Option, None, Some, slice_get, slice_set}
use Rattle.hy_value.specs.declared.change.Change.{Change}
use Rattle.hy_prune.specs.declared.Cover.{Cover}
use Rattle.hy_stamp.specs.declared.Viewer.{Viewer}
use Rattle.hy_undo.specs.Places.{Place, Cell, sees}
use Rattle.hy_undo.specs.Chunks.{ChunkData, Pruned, Everywhere}

-- the positions of a chunk change so, and nothing else of it
pub record OnlyPlaces (does : List Place → List Place → Type 0) (old new : ChunkData) : Type 0 where
  pub places : does old.places new.places
  pub others : new ≡ record old { places = new.places }

-- the position of this index changes so, and no other
pub record OnlyAt (index : ℕ) (does : Place → Place → Type 0) (old new : List Place) : Type 0 where
  pub was : Place
  pub becomes : Place
  pub found : slice_get old index ≡ Some was
  pub change : does was becomes
  pub others : new ≡ slice_set old index becomes

-- the chunk is pruned by a cover, or left as it is by one who doesn't prune
pub record PrunesFirst (prunes : Bool) (cover : Cover) (old new : ChunkData) : Type 0 where
  pub pruned : prunes ≡ true → OnlyPlaces (Everywhere (Pruned cover)) old new
  pub kept : prunes ≡ false → new ≡ old

-- the change of a position, if it gets a new cell
abbrev pub change_of : ℕ → ℕ → Cell → Option Cell → List Change
change_of table pos before None = []
change_of table pos before (Some after) = record { table = table; pos = pos; before = before; after = after } ∷ []

-- the changes of positions from this one on that get new cells: from what the viewer sees there
abbrev pub changes_from : ℕ → ℕ → Viewer → List (Option Cell) → List Place → List Change
changes_from table pos viewer [] places = []
changes_from table pos viewer (cell ∷ cells) [] = []
changes_from table pos viewer (cell ∷ cells) (place ∷ places) =
    change_of table pos (sees viewer place) cell ++ changes_from table (suc pos) viewer cells places
