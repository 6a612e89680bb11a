-- What a ROLLBACK TO writes in a chunk: at positions that were written since the savepoint, which are own, what was seen there then.
use Rattle.std.proofs.Common.{◌≡◌, ℕ, List, [], ◌∷◌, Option, None, Some, true, is_some, refl, ap}
use Rattle.std.specs.Option.{option_map}
use Rattle.std.specs.List.{AllByRecursion, flat_map}
use Rattle.hy_machine.specs.declared.Setting.{Setting}
use Rattle.hy_machine.specs.States.{State, Open, Begun}
use Rattle.hy_machine.specs.Tables.{Cell, Tables, over, positions_in}
use Rattle.hy_machine.specs.Writes.{Write}
use Rattle.hy_machine.specs.Positions.{item_at}
use Rattle.hy_machine.specs.Saving.{own_at, own_since, write_back_at, taken_back}
use Rattle.hy_machine.specs.Sessions.{session_at, snapshot}
use Rattle.hy_machine.specs.Visits.{write_of}
use Rattle.hy_machine.specs.Runs.{IsReached}
use Rattle.hy_machine.specs.Trails as trails
use Rattle.hy_lawful.proofs.Lists.{all_joined}
use Rattle.hy_lawful.proofs.Trails.{reached_trails}

-- what a transaction saw at its newest savepoint of a name
abbrev pub seen_then : Setting → State → Begun → List ℕ → Tables
seen_then setting state begun name = over (snapshot setting state begun.prefix) (own_at setting begun name)

-- what holds of what was seen at each position that was written since holds of all that is written back
pub backs_all : (P : Write → Type 0) (setting : Setting) (state : State) (begun : Begun) (name : List ℕ) (table chunk : ℕ)
    → ((pos : ℕ) → is_some (item_at (own_since setting begun name) table pos) ≡ true
    → P (record { table = table; pos = pos; cell = item_at (seen_then setting state begun name) table pos }))
    → AllByRecursion P (taken_back setting state begun name table chunk)
backs_all P setting state begun name table chunk each = at_all (positions_in setting chunk)
  where
    seen : Tables
    seen = seen_then setting state begun name

    at_one : (pos : ℕ) (item : Option Cell) → item_at (own_since setting begun name) table pos ≡ item
        → AllByRecursion P (write_of table pos (option_map (λ own. item_at (seen_then setting state begun name) table pos) item))
    at_one pos None e = tt
    at_one pos (Some own) e = (each pos (ap is_some e), tt)

    at_all : (positions : List ℕ)
        → AllByRecursion P (flat_map (write_back_at (seen_then setting state begun name) (own_since setting begun name) table) positions)
    at_all [] = tt
    at_all (pos ∷ positions) =
        all_joined P (write_back_at seen (own_since setting begun name) table pos)
        (flat_map (write_back_at seen (own_since setting begun name) table) positions)
        (at_one pos (item_at (own_since setting begun name) table pos) refl) (at_all positions)

-- ---- what was written since is own

abbrev pub SinceIsOwn : Setting → Begun → Type 0
SinceIsOwn setting begun = (name : List ℕ) (table pos : ℕ) → is_some (item_at (own_since setting begun name) table pos) ≡ true
    → is_some (item_at begun.own table pos) ≡ true

-- so it is in each state that the machine comes to
pub since_own : (setting : Setting) (state : State) → IsReached setting state → (number : ℕ) (current : Open) → (session_at state number).now ≡ Some current
    → SinceIsOwn setting current.begun
since_own setting state r number current is name table pos since =
    by_item (item_at (own_since setting current.begun name) table pos) refl since
  where
    by_item : (item : Option Cell) → item_at (own_since setting current.begun name) table pos ≡ item → is_some item ≡ true
        → is_some (item_at current.begun.own table pos) ≡ true
    by_item None e some = absurd cc
    by_item (Some cell) e some = ap is_some (trails.since_own setting current.begun name (reached_trails setting state r number current is) table pos cell e)
