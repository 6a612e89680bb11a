-- What seats know, and how each step changes it.
use Rattle.std.specs.Prelude.{ℕ, ◌+◌, List, [], ◌++◌, map, replicate, slice_set, Option, Some, None}
use mathlib.Core.Option.{some, none}
use mathlib.Core.Option as maybe
use lib.ListN.{get_elem?}
use Rattle.std.specs.declared.snapshot.Snapshot.{Snapshot}

-- what the first seat knows: how many seats it made, and the sessions that are with no other seat
pub record Keeper (S : Type 0) : Type 0 where
  pub made : ℕ
  pub kept : List (Option S)

-- what a session's seat knows: its number and session, the part that it has, as it was taken, and the numbers of the parts that it was refused
pub record Visitor (S D : Type 0) : Type 0 where
  pub number : ℕ
  pub session : S
  pub held : Option (ℕ × D)
  pub refusals : List ℕ

-- a seat that was joined to the first knows nothing
pub data Knowledge (S D : Type 0) : Type 0 where
  Spent : Knowledge S D
  First : Keeper S → Knowledge S D
  Seated : Visitor S D → Knowledge S D

module _ {S : Type 0} where
  abbrev pub keeper : ℕ → List (Option S) → Keeper S
  keeper made kept = record { made = made; kept = kept }

  -- the session that a snapshot shows
  abbrev pub shown : Snapshot S → S
  shown s = s.value

  -- the same, as it is kept
  abbrev pub kept_of : Snapshot S → Option S
  kept_of s = Some s.value

module _ {S D : Type 0} where
  -- the first seat, when it was just made
  abbrev pub first_of : List S → Knowledge S D
  first_of sessions = First (keeper 0 (map Some sessions))

  -- the same, of snapshots of the sessions
  abbrev pub first_from : List (Snapshot S) → Knowledge S D
  first_from snapshots = First (keeper 0 (map kept_of snapshots))

  abbrev pub spent : Knowledge S D
  spent = Spent

  abbrev pub visitor : ℕ → S → Option (ℕ × D) → List ℕ → Visitor S D
  visitor number session' held refusals = record { number = number; session = session'; held = held; refusals = refusals }

  -- a new seat of this number, with what the first seat kept there
  abbrev pub newly_seated : ℕ → maybe.Option (Option S) → Knowledge S D
  newly_seated number (some (Some s)) = Seated (visitor number s None [])
  newly_seated number (some None) = Spent
  newly_seated number none = Spent

  -- after a split, the first seat and the new one
  abbrev pub parent : Knowledge S D → Knowledge S D
  parent (First r) = First (keeper (r.made + 1) (slice_set r.kept r.made None))
  parent Spent = Spent
  parent (Seated o) = Seated o

  abbrev pub child : Knowledge S D → Knowledge S D
  child (First r) = newly_seated r.made (get_elem? r.kept r.made)
  child Spent = Spent
  child (Seated o) = Spent

  -- after a join, the first seat
  abbrev pub joined : Knowledge S D → Knowledge S D → Knowledge S D
  joined (First r) (Seated o) = First (keeper r.made (slice_set r.kept o.number (Some o.session)))
  joined (First r) Spent = First r
  joined (First r) (First q) = First r
  joined Spent w = Spent
  joined (Seated o) w = Seated o

  -- a session's seat that took the part k, as p
  abbrev pub holding : Visitor S D → ℕ → D → Visitor S D
  holding o k p = visitor o.number o.session (Some (k, p)) o.refusals

  -- it was refused the part k, so many times
  abbrev pub refused : Visitor S D → ℕ → ℕ → Visitor S D
  refused o k times = visitor o.number o.session o.held (o.refusals ++ replicate times k)

  -- it gave its part back, and has this session from now on
  abbrev pub settled : Visitor S D → S → Visitor S D
  settled o s = visitor o.number s None o.refusals
