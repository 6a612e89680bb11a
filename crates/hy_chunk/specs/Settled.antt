-- Which positions need no look when a chunk is stamped, undone or pruned.
use Rattle.std.specs.Prelude.{◌≡◌, ℕ, ◌<◌, ◌≤◌, List, [], ◌∷◌, Bool, true, false, length, slice_index_or}
use Rattle.hy_chain.specs.Chains.{Undo, newest}
use Rattle.hy_undo.specs.Images.{Image}
use Rattle.hy_undo.specs.Places.{Place, is_older}
use Rattle.hy_chunk.specs.declared.settled.Settled.{Settled}
use Rattle.hy_chunk.specs.Fields.{nth}

-- a chain whose newest record, if it has one, is older than a time: no transaction with an identifier from that time on has one
abbrev pub IsReleased : ℕ → List (Undo Image) → Type 0
IsReleased before chain = is_older before (newest chain) ≡ true

-- a chain at rest: it is empty, or has a single record, whose mark is after a time
abbrev pub IsAtRest : ℕ → List (Undo Image) → Type 0
IsAtRest after [] = Unit {0}
IsAtRest after (undo ∷ []) = after < undo.stamp.mark
IsAtRest after (undo ∷ older ∷ rest) = ⊥

-- each position has its bit, and where that isn't set the chain is so
pub record HoldsUnset (holds : List (Undo Image) → Type 0) (bits : List Bool) (places : List Place) : Type 0 where
  pub size : length bits ≡ length places
  pub unset : (place : ℕ) → place < length places → slice_index_or bits place false ≡ false → holds (nth places place).chain

-- a position that no stamp or undo has to look at is released, and one that pruning needn't look at is at rest
pub record Settles (settled : Settled) (places : List Place) : Type 0 where
  pub released : HoldsUnset (IsReleased settled.before) settled.uncommitted places
  pub at_rest : HoldsUnset (IsAtRest settled.after) settled.unpruned places

-- the bits of a part are set
abbrev pub AllSetIn : ℕ → ℕ → List Bool → Type 0
AllSetIn first end bits = (place : ℕ) → first ≤ place → place < end → slice_index_or bits place false ≡ true
