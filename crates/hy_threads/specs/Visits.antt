-- What a visit needs, and what it does.
use Rattle.std.specs.Prelude.{◌≡◌, ℕ, Option, Some}
use Rattle.hy_threads.specs.declared.gate.Point.{Point}
use Rattle.hy_threads.specs.declared.worked.Visited.{Visited}
use Rattle.hy_threads.specs.declared.worked.Visited.TheVariants.{Moved, Answered, Blocked}

-- the next visit is of the part of this number
abbrev pub Needs : Option Point → ℕ → Type 0
Needs next number = (p : Point) × (next ≡ Some p) × (p.part ≡ number)

-- a session that is not blocked goes on by an event; one that is blocked changes nothing
abbrev pub Visits : {S D : Type 0} → (S → D → S → D → Type 0) → (S → D → Type 0) → Visited → S → D → S → D → Type 0
Visits event is_blocked Moved s p t q = event s p t q × ¬ is_blocked s p
Visits event is_blocked Answered s p t q = event s p t q × ¬ is_blocked s p
Visits event is_blocked Blocked s p t q = is_blocked s p × (t ≡ s) × (q ≡ p)
