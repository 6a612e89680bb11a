-- A worker as clauses see it, and how it ends.
use Rattle.std.specs.Prelude.{◌≡◌, ◌≢◌, ◌≤◌, ◌+◌, ℕ, Bool, true, List, [], ◌∷◌, Option, None, MatchBool}
use Rattle.hy_threads.specs.Seats.{Home}
use Rattle.hy_threads.specs.Knowledge.{Knowledge, Visitor, Seated}

-- which parts it is of, its number and its session, and whether its last run ended because it found no memory
pub record Task (S : Type 0) : Type 0 where
  pub home : Home
  pub number : ℕ
  pub session : S
  pub starved : Bool

-- the seat has no part, and its session is this one
abbrev pub IsReady : {S D : Type 0} → Knowledge S D → S → Type 0
IsReady {S} {D} v s = (o : Visitor S D) × (v ≡ Seated o) × (o.session ≡ s) × (o.held ≡ None)

-- it is of these parts, and needs none beyond them
abbrev pub Fits : {S : Type 0} → (S → ℕ) → Home → Task S → Type 0
Fits width_of home w = (w.home ≡ home) × (width_of w.session ≤ home.slots)

-- it is of the same parts, and has the same number and the same width
abbrev pub IsSameWorker : {S : Type 0} → (S → ℕ) → Task S → Task S → Type 0
IsSameWorker width_of v w = (w.home ≡ v.home) × (w.number ≡ v.number) × (width_of w.session ≡ width_of v.session)

module _ {S P : Type 0} (point_of : S → Option P) where
  -- its session is at the end
  abbrev pub HasEnded : Task S → Type 0
  HasEnded w = point_of w.session ≡ None

  -- it found no memory, and its session is not at the end
  abbrev pub HasStarved : Task S → Type 0
  HasStarved w = (w.starved ≡ true) × (point_of w.session ≢ None)

  -- it found no memory before the end, or came to it
  abbrev pub HasStopped : Task S → Type 0
  HasStopped w = MatchBool w.starved (point_of w.session ≢ None) (point_of w.session ≡ None)

-- a whole run of a worker
abbrev pub Stops : {S P : Type 0} → (S → ℕ) → (S → Option P) → Task S → Task S → Type 0
Stops width_of point_of v w = IsSameWorker width_of v w × HasStopped point_of w

abbrev pub session_of : {S : Type 0} → Task S → S
session_of w = w.session

-- the workers are of these parts, and numbered from n on
abbrev pub AreOf : {S : Type 0} → Home → ℕ → List (Task S) → Type 0
AreOf home n [] = Unit {0}
AreOf home n (w ∷ ws) = (w.home ≡ home) × (w.number ≡ n) × AreOf home (n + 1) ws
