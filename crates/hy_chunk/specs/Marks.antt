-- Where the first bit is that is set.
use Rattle.std.specs.Prelude.{◌≡◌, ℕ, ◌<◌, ◌≤◌, List, Bool, true, false, length, slice_index_or}

-- a place is the first from another on whose bit is set, or behind the last bit
pub record IsNextSet (bits : List Bool) (from place : ℕ) : Type 0 where
  pub reached : from ≤ place
  pub within : place ≤ length bits
  pub passed : (k : ℕ) → from ≤ k → k < place → slice_index_or bits k false ≡ false
  pub set : place < length bits → slice_index_or bits place false ≡ true
