-- Ranges of positions.
use Rattle.std.specs.Prelude.{ℕ, ◌+◌, ◌≤◌, ◌<◌, nat_lt, min, max, if◌then◌else◌}
use Rattle.hy_range.specs.declared.Versioned.{Versioned}

-- a position is one of the range
abbrev pub IsIn : ℕ → Versioned → Type 0
IsIn pos range = (range.first ≤ pos) × (pos < range.end)

-- the positions from one up to another
abbrev pub between : ℕ → ℕ → Versioned
between first end = record { first = first; end = end }

-- no positions
abbrev pub empty : Versioned
empty = between 0 0

-- the least range that has the positions of this one, and one more
abbrev pub widened : ℕ → Versioned → Versioned
widened pos range =
    if nat_lt range.first range.end then between (min range.first pos) (max range.end (pos + 1))
    else between pos (pos + 1)
