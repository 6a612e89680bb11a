-- Shares of a session's work, made ahead of its next visit.
use Rattle.std.specs.Prelude.{ℕ, ◌<◌, List, length, slice_index_or}

-- these are shares of a session, by their numbers
abbrev pub AreShares : {S X : Type 0} → (S → ℕ → X → Type 0) → S → List X → Type 0
AreShares {X = X} is_share session shares = (number : ℕ) (d : X) → number < length shares → is_share session number (slice_index_or shares number d)
