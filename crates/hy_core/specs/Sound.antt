-- What holds of a core at all times.
use Rattle.std.specs.Prelude.{ℕ, List, ◌<◌}
use Rattle.std.specs.List.{AllByRecursion}

-- the open starts were given by the clock before
abbrev pub AreGiven : ℕ → List ℕ → Type 0
AreGiven next starts = AllByRecursion (λ (start : ℕ). start < next) starts
