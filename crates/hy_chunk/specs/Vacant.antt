-- Which positions may take a new row, at one time or another.
use Rattle.std.specs.Prelude.{◌≡◌, ◌<◌, ◌&&◌, ℕ, List, Bool, false, not, length, slice_index_or}

-- the bit of each position says whether it is unused or no row is in place
pub record ShowsVacant (used live vacant : List Bool) : Type 0 where
  pub many : length vacant ≡ length live
  pub each : (place : ℕ) → place < length live → slice_index_or vacant place false ≡ not (slice_index_or used place false && slice_index_or live place false)
