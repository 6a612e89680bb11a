-- What a source tells of the bytes that it has left, and a sink of the bytes that it took: `None` where it does not tell, and then nothing is claimed.
use Rattle.std.specs.Prelude.{◌≡◌, ℕ, ◌+◌, ◌<◌, ◌≤◌, List, [], length, take, drop, Option, Some, None, ⊤}
use Rattle.std.specs.Io.KnownBytes.{Consumes, Appends}

-- the source gave these bytes, the first of what it had left, and has the others left
abbrev pub Gives : Option (List ℕ) → Option (List ℕ) → List ℕ → Type 0
Gives before after bytes = Consumes before after bytes

-- the sink took these bytes, behind what it had taken before
abbrev pub Takes : Option (List ℕ) → Option (List ℕ) → List ℕ → Type 0
Takes before after bytes = Appends before after bytes

-- the source gave `limit` of its first bytes at most, and has the others left
abbrev pub GivesAtMost : Option (List ℕ) → Option (List ℕ) → ℕ → Type 0
GivesAtMost before after limit = (bytes : List ℕ) × (length bytes ≤ limit) × Gives before after bytes

-- the sink took the first of these bytes
abbrev pub TakesSome : Option (List ℕ) → Option (List ℕ) → List ℕ → Type 0
TakesSome before after bytes = (count : ℕ) × (count ≤ length bytes) × Takes before after (take count bytes)

-- these are all the bytes that the source had left, and it has none left
abbrev pub GivesAll : Option (List ℕ) → Option (List ℕ) → List ℕ → Type 0
GivesAll None after bytes = ⊤
GivesAll (Some all) after bytes = (bytes ≡ all) × (after ≡ Some [])

-- the source had more than `limit` bytes left, and gave one more than that
abbrev pub GivesPast : Option (List ℕ) → Option (List ℕ) → ℕ → Type 0
GivesPast None after limit = ⊤
GivesPast (Some all) after limit = (limit < length all) × (after ≡ Some (drop (limit + 1) all))
