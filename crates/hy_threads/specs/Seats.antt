-- A seat as clauses see it.
use Rattle.std.specs.Prelude.{◌≡◌, ℕ, ◌<◌, ◌^◌, List, [], ◌∷◌, map, length, Option, Some, None}
use Rattle.atomic_table.specs.Seated.{TableId}
use Rattle.hy_threads.specs.Knowledge.{Knowledge, Spent, First, Seated}

-- which parts they are. `slots` says how many
abbrev pub Home : Type 0
Home = TableId

-- a seat: which parts it belongs to, its number among all their seats, and what it knows
pub record SeatData (K : Type 0) : Type 0 where
  pub home : Home
  pub id : ℕ
  pub knows : K

abbrev pub held_slots : {D : Type 0} → Option (ℕ × D) → List ℕ
held_slots None = []
held_slots (Some h) = h.0 ∷ []

module _ {S D : Type 0} where
  -- the session's number; of the first seat, how many seats it made
  abbrev pub number_of : Knowledge S D → ℕ
  number_of Spent = 0
  number_of (First r) = r.made
  number_of (Seated o) = o.number

  -- the slots whose parts are out with the seat
  abbrev pub out_of : Knowledge S D → List ℕ
  out_of Spent = []
  out_of (First r) = []
  out_of (Seated o) = held_slots o.held

  -- 1 more than a session's number fits the half of a word that a thread sleeps on
  abbrev pub AreFew : Knowledge S D → Type 0
  AreFew Spent = Unit {0}
  AreFew (First r) = length r.kept < 2 ^ 31
  AreFew (Seated o) = o.number < 2 ^ 31

abbrev pub slot_number : {X : Type 0} → ℕ × X → ℕ
slot_number x = x.0

abbrev pub slots_of : {X : Type 0} → List (ℕ × X) → List ℕ
slots_of l = map slot_number l

-- the number is that of what the seat knows, and fits; and the seat has the slot of the part that it knows it has
abbrev pub IsSound : {S D X : Type 0} → ℕ → Knowledge S D × List (ℕ × X) → Type 0
IsSound number me = (number ≡ number_of me.0) × (slots_of me.1 ≡ out_of me.0) × AreFew me.0
