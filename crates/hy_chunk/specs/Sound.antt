-- What holds of a chunk's fields at all times.
use Rattle.std.specs.Prelude.{◌≡◌, ℕ, ◌+◌, ◌<◌, ◌≤◌, List, [], ◌∷◌, Bool, false, Option, None, Some, length, replicate}
use Rattle.hy_value.specs.declared.Value.{Value}
use Rattle.hy_value.specs.declared.Kind.{Kind}
use Rattle.hy_chain.specs.Chains.{Undo}
use Rattle.hy_column.specs.Cells.{FitsKind, texts_of}
use Rattle.hy_undo.specs.Images.{Image}
use Rattle.hy_undo.specs.Stock.{Stock}
use Rattle.hy_undo.specs.Places.{Place}
use Rattle.hy_undo.specs.Steps.{IsBlankUnused}
use Rattle.hy_chunk.specs.Fields.{place_at}

-- a row has a value of each type, or NULL, in order
abbrev pub FitsRow : List Kind → List Value → Type 0
FitsRow [] [] = Unit {0}
FitsRow [] (value ∷ row) = ⊥
FitsRow (kind ∷ kinds) [] = ⊥
FitsRow (kind ∷ kinds) (value ∷ row) = FitsKind kind value × FitsRow kinds row

-- how many texts it has at most
abbrev pub most_texts : List Kind → ℕ
most_texts kinds = texts_of kinds

abbrev pub FitsNoted : Kind → Option Value → Type 0
FitsNoted kind None = Unit {0}
FitsNoted kind (Some value) = FitsKind kind value

-- a before-image has a slot for each column, and what is noted there is of the column's type, or NULL
abbrev pub FitsImage : List Kind → List (Option Value) → Type 0
FitsImage [] [] = Unit {0}
FitsImage [] (noted ∷ image) = ⊥
FitsImage (kind ∷ kinds) [] = ⊥
FitsImage (kind ∷ kinds) (noted ∷ image) = FitsNoted kind noted × FitsImage kinds image

-- each before-image fits, and only the oldest says that no row was there
abbrev pub FitsChain : List Kind → List (Undo Image) → Type 0
FitsChain kinds [] = Unit {0}
FitsChain kinds (undo ∷ older) = FitsImage kinds undo.image.values × (undo.image.live ≡ false → older ≡ []) × FitsChain kinds older

-- a position's row and chain fit, and if it is unused it has no row and no chain
pub record FitsPlace (kinds : List Kind) (place : Place) : Type 0 where
  pub row : FitsRow kinds place.version.row
  pub images : FitsChain kinds place.chain
  pub unused : IsBlankUnused place

-- a before-image in which nothing is noted
abbrev pub blank_image : ℕ → Image
blank_image width = record { values = replicate width None; live = false }

-- the spare before-images have a slot for each column, and each has a place for each text that may be noted in it
pub record AreReady (kinds : List Kind) (spare : Stock) : Type 0 where
  pub columns : spare.columns ≡ length kinds
  pub texts : texts_of kinds ≤ spare.texts

-- the fields have as many positions, each of which fits, and the spare before-images are ready
pub record Sound (kinds : List Kind) (rows : List (List Value)) (live used : List Bool) (deaths : List ℕ) (chains : List (List (Undo Image)))
    (spare : Stock) : Type 0 where
  pub lives : length live ≡ length rows
  pub uses : length used ≡ length rows
  pub dead : length deaths ≡ length rows
  pub chained : length chains ≡ length rows
  pub each : (place : ℕ) → place < length rows → FitsPlace kinds (place_at rows live used deaths chains place)
  pub ready : AreReady kinds spare
