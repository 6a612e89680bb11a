-- Which positions have undo records.
use Rattle.std.specs.Prelude.{◌≡◌, ◌⊎◌, ◌≤◌, ◌<◌, ℕ, List, [], slice_index_or, length}
use Rattle.hy_chain.specs.Chains.{Undo}
use Rattle.hy_range.specs.declared.Versioned.{Versioned}
use Rattle.hy_range.specs.Ranges.{IsIn}
use Rattle.hy_undo.specs.Images.{Image}
use Rattle.hy_undo.specs.Places.{Place}
use Rattle.hy_chunk.specs.Fields.{nth}

-- each position that has a record is of the range
abbrev pub Covers : Versioned → List (List (Undo Image)) → Type 0
Covers range chains = (place : ℕ) → (slice_index_or chains place [] ≡ []) ⊎ IsIn place range

-- no position has a record but those from one up to another
abbrev pub NoneOutside : ℕ → ℕ → List Place → Type 0
NoneOutside first end places = (place : ℕ) → place < length places → ((place < first) ⊎ (end ≤ place)) → (nth places place).chain ≡ []
