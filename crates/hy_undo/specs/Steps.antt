-- What is done at one position, step by step.
use Rattle.std.specs.Prelude.{◌≡◌, ℕ, List, [], ◌∷◌, true, false, not, ◌&&◌, ◌||◌, ◌==◌, if◌then◌else◌}
use Rattle.hy_stamp.specs.declared.Label.{Label}
use Rattle.hy_stamp.specs.declared.Stamp.{Stamp}
use Rattle.hy_stamp.specs.declared.Viewer.{Viewer}
use Rattle.hy_prune.specs.declared.Cover.{Cover}
use Rattle.hy_chain.specs.Chains.{Undo, Falls, newest, stamped}
use Rattle.hy_chain.specs.Pruning.{pruned}
use Rattle.hy_undo.specs.declared.version.Version.{Version}
use Rattle.hy_undo.specs.Images.{Image, before, both}
use Rattle.hy_undo.specs.Places.{Place, cell_of, is_free}
use Rattle.hy_undo.specs.Chunks.{is_own, Pruned, Written, Placed, StampedPlace, Undone, AtOwn}

-- the chain is pruned
abbrev pub pruned_place : Cover → Place → Place
pruned_place cover place = record place { chain = pruned both cover place.chain }

-- the own record has the commit time, and a row that is gone has it as its death time
abbrev pub stamped_place : ℕ → ℕ → Place → Place
stamped_place id time place =
    record place { death = if is_own id (newest place.chain) then (if place.version.live then place.death else time) else place.death; chain = stamped id time place.chain }

-- the own record's before-image is put back
abbrev pub undone_by : ℕ → Place → List (Undo Image) → Place
undone_by id place [] = place
undone_by id place (undo ∷ rest) =
    if undo.stamp.mark == id
    then record { version = before undo.image place.version; used = place.used && (undo.image.live || not (place.death == 0)); death = place.death; chain = rest }
    else place

abbrev pub undone_place : ℕ → Place → Place
undone_place id place = undone_by id place place.chain

-- another version is in place, and a record of the writer on top says what was there before
abbrev pub written_place : Label → ℕ → Image → Version → Place → Place
written_place label id image version place =
    record place { version = version; chain = record { stamp = record { owner = label; mark = id }; image = image } ∷ place.chain }

-- another version is in place, and the writer's record on top says what was there before both writes
abbrev pub rewritten_place : Stamp → Image → Version → List (Undo Image) → Place → Place
rewritten_place stamp image version rest place = record place { version = version; chain = record { stamp = stamp; image = image } ∷ rest }

-- a new row is in place, over the writer's record alone
abbrev pub placed_place : Label → ℕ → Image → Version → Place → Place
placed_place label id image version place =
    record { version = version; used = true; death = place.death; chain = record { stamp = record { owner = label; mark = id }; image = image } ∷ [] }

-- an unused position has no row and no chain
pub record IsBlankUnused (place : Place) : Type 0 where
  pub row : place.used ≡ false → place.version.live ≡ false
  pub chain : place.used ≡ false → place.chain ≡ []

-- each step is what a visit does at the position
pub record PlacesStep : Type 0 where
  pub prunes : (cover : Cover) (place : Place) → Falls place.chain → Pruned cover place (pruned_place cover place)
  pub commits : (id time : ℕ) (place : Place) → AtOwn id (StampedPlace id time) place (stamped_place id time place)
  pub undoes : (id : ℕ) (place : Place) → AtOwn id (Undone id) place (undone_place id place)
  pub writes : (viewer : Viewer) (label : Label) (image : Image) (version : Version) (place : Place) → is_own viewer.id (newest place.chain) ≡ false → before image version ≡ place.version
      → Written viewer label (cell_of version) place (written_place label viewer.id image version place)
  pub rewrites : (viewer : Viewer) (label : Label) (undo : Undo Image) (rest : List (Undo Image)) (image : Image) (version : Version) (place : Place) → place.chain ≡ undo ∷ rest
      → undo.stamp.mark ≡ viewer.id → before image version ≡ before undo.image place.version
      → Written viewer label (cell_of version) place (rewritten_place undo.stamp image version rest place)
  pub places : (viewer : Viewer) (label : Label) (watermark : ℕ) (image : Image) (version : Version) (place : Place) → is_free watermark place ≡ true → IsBlankUnused place
      → version.live ≡ true → image.live ≡ false → Placed viewer label watermark version.row place (placed_place label viewer.id image version place)
