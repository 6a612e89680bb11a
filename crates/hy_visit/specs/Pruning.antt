-- What a visit does first: it prunes the chunk, or does not.
use Rattle.std.specs.Prelude.{◌≡◌, ℕ, ◌≤◌, List, [], ◌∷◌, Bool, length}
use Rattle.std.specs.List.{AllByRecursion}
use Rattle.hy_prune.specs.declared.Cover.{Cover}
use Rattle.hy_chain.specs.Chains.{Undo, Falls, Under}
use Rattle.hy_chain.specs.Pruning.{count_old}
use Rattle.hy_undo.specs.Images.{Image}
use Rattle.hy_undo.specs.Places.{Place}
use Rattle.hy_undo.specs.Chunks.{ChunkData, StampedPlace, AtOwn, Everywhere}
use Rattle.hy_event.specs.Changing.{OnlyPlaces, PrunesFirst}

-- in each chain the marks fall
abbrev pub AllFall : List Place → Type 0
AllFall places = AllByRecursion (λ place. Falls place.chain) places

-- in each chain at most as many records are below the cover's next time as it has starts
abbrev pub AllShort : Cover → List Place → Type 0
AllShort cover places = AllByRecursion (λ place. count_old cover place.chain ≤ length cover.starts) places

-- behind a newest record of this identifier all marks are below a time
abbrev pub UnderOwn : ℕ → ℕ → List (Undo Image) → Type 0
UnderOwn id time [] = Unit {0}
UnderOwn id time (undo ∷ chain) = undo.stamp.mark ≡ id → Under time chain

-- in each chain
abbrev pub AllUnderOwn : ℕ → ℕ → List Place → Type 0
AllUnderOwn id time places = AllByRecursion (λ place. UnderOwn id time place.chain) places

-- the own records get the commit time, and then the chunk is pruned
pub record StampDone (id time : ℕ) (prunes : Bool) (cover : Cover) (old new : ChunkData) : Type 0 where
  pub between : ChunkData
  pub chunk : OnlyPlaces (Everywhere (AtOwn id (StampedPlace id time))) old between
  pub prunes_then : PrunesFirst prunes cover between new
