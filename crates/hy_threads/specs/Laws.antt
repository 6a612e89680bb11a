-- The two laws of a `Parted`, of plain lists of parts and sessions.
use Rattle.std.specs.Prelude.{◌≡◌, ℕ, List, slice_set}
use mathlib.Core.Option.{some}
use lib.ListN.{get_elem?}

module _ {S D : Type 0} (fact : List D → List S → Type 0) where
  -- the near fact follows from the fact, for each session and each part
  abbrev pub NearFollows : (ℕ → S → D → Type 0) → Type 0
  NearFollows near = (parts : List D) (sessions : List S) (i k : ℕ) (s : S) (p : D)
      → fact parts sessions → get_elem? sessions i ≡ some s → get_elem? parts k ≡ some p → near k s p

  -- an event of the session i at the part k keeps the fact, whatever the others are
  abbrev pub EventKeeps : (ℕ → S → D → S → D → Type 0) → Type 0
  EventKeeps event = (parts : List D) (sessions : List S) (i k : ℕ) (s t : S) (p q : D)
      → fact parts sessions → get_elem? sessions i ≡ some s → get_elem? parts k ≡ some p
      → event k s p t q → fact (slice_set parts k q) (slice_set sessions i t)
