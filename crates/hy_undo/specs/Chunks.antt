-- A chunk, position by position, and what a visit does at a position.
use Rattle.std.specs.Prelude.{◌≡◌, ℕ, ◌<◌, ◌≤◌, List, [], ◌∷◌, Bool, true, false, not, ◌&&◌, ◌||◌, ◌==◌, Option, None, Some, map, drop, if◌then◌else◌}
use Rattle.hy_value.specs.declared.Value.{Value}
use Rattle.hy_stamp.specs.declared.Label.{Label}
use Rattle.hy_stamp.specs.declared.Stamp.{Stamp}
use Rattle.hy_stamp.specs.declared.Viewer.{Viewer}
use Rattle.hy_prune.specs.declared.Cover.{Cover}
use Rattle.hy_chain.specs.Chains.{Undo, IsSafe, newest}
use Rattle.hy_chain.specs.Pruning.{pruned}
use Rattle.hy_undo.specs.Images.{Image, both}
use Rattle.hy_undo.specs.Places.{Place, Cell, sees, in_place, stamps, IsOther}

-- the plain data of a chunk: its table, its first position, how many columns it has, its key, its positions
pub record ChunkData : Type 0 where
  pub table : ℕ
  pub first : ℕ
  pub width : ℕ
  pub key : Option ℕ
  pub places : List Place

-- what a viewer sees of a chunk
abbrev pub rows_seen : Viewer → List Place → List Cell
rows_seen viewer places = map (sees viewer) places

-- a stamp, if there is one, is of this identifier
abbrev pub is_own : ℕ → Option Stamp → Bool
is_own id None = false
is_own id (Some stamp) = stamp.mark == id

-- pruned by a cover
pub record Pruned (cover : Cover) (old new : Place) : Type 0 where
  pub stamps : stamps new ≡ map (λ undo. undo.stamp) (pruned both cover old.chain)
  pub views : (viewer : Viewer) → IsSafe cover old.chain viewer → sees viewer new ≡ sees viewer old
  pub version : new.version ≡ old.version
  pub used : new.used ≡ old.used
  pub death : new.death ≡ old.death

-- the writer's stamp on top, where it isn't there
abbrev pub own_first : Label → ℕ → List Stamp → List Stamp
own_first label id [] = record { owner = label; mark = id } ∷ []
own_first label id (stamp ∷ others) = if stamp.mark == id then stamp ∷ others else record { owner = label; mark = id } ∷ stamp ∷ others

-- a write: the viewer sees this cell from then on, and all others what they saw
pub record Written (viewer : Viewer) (label : Label) (cell : Cell) (old new : Place) : Type 0 where
  pub own : sees viewer new ≡ cell
  pub others : (other : Viewer) → IsOther viewer.id other → sees other new ≡ sees other old
  pub stamps : stamps new ≡ own_first label viewer.id (stamps old)
  pub used : new.used ≡ old.used
  pub death : new.death ≡ old.death

-- an insert: the viewer sees this row, and all others from the watermark on what they saw
pub record Placed (viewer : Viewer) (label : Label) (watermark : ℕ) (row : List Value) (old new : Place) : Type 0 where
  pub own : sees viewer new ≡ Some row
  pub others : (other : Viewer) → IsOther viewer.id other → watermark ≤ other.start → sees other new ≡ sees other old
  pub stamps : stamps new ≡ record { owner = label; mark = viewer.id } ∷ []
  pub used : new.used ≡ true
  pub death : new.death ≡ old.death

-- a commit: the own record counts from this time on
pub record StampedPlace (id time : ℕ) (old new : Place) : Type 0 where
  pub early : (other : Viewer) → IsOther id other → other.start ≤ time → (time ≡ other.id → ⊥) → sees other new ≡ sees other old
  pub late : (other : Viewer) → time < other.start → sees other new ≡ in_place old
  pub stamps : (stamp : Stamp) (rest : List Stamp) → stamps old ≡ stamp ∷ rest → stamps new ≡ record { owner = stamp.owner; mark = time } ∷ rest
  pub used : new.used ≡ old.used
  pub death : new.death ≡ (if old.version.live then old.death else time)

-- an undo: all others see what they saw
pub record Undone (id : ℕ) (old new : Place) : Type 0 where
  pub others : (other : Viewer) → IsOther id other → sees other new ≡ sees other old
  pub stamps : stamps new ≡ drop 1 (stamps old)
  pub used : (undo : Undo Image) (rest : List (Undo Image)) → old.chain ≡ undo ∷ rest → new.used ≡ (old.used && (undo.image.live || not (old.death == 0)))
  pub death : new.death ≡ old.death

-- where the newest record is of this identifier something is done, elsewhere nothing
pub record AtOwn (id : ℕ) (does : Place → Place → Type 0) (old new : Place) : Type 0 where
  pub own : is_own id (newest old.chain) ≡ true → does old new
  pub others : is_own id (newest old.chain) ≡ false → new ≡ old

-- a relation at each position
abbrev pub Everywhere : (Place → Place → Type 0) → List Place → List Place → Type 0
Everywhere does [] [] = Unit {0}
Everywhere does [] (new ∷ news) = ⊥
Everywhere does (old ∷ olds) [] = ⊥
Everywhere does (old ∷ olds) (new ∷ news) = does old new × Everywhere does olds news
