-- The chunks of positions in order, and what is found of a list that begins with the chunks of a table.
use Rattle.std.specs.Prelude.{◌≡◌, ℕ, ◌<◌, ◌≤◌, List, [], ◌∷◌, Bool, true, false, ◌&&◌, ◌||◌, ◌==◌, nat_le, nat_lt, Option, None, Some, Result, Ok, Err, slice_get, if◌then◌else◌}
use Rattle.std.specs.List.{AllByRecursion, list_any}
use Rattle.hy_render.specs.declared.Place.{Place}
use Rattle.hy_notes.specs.declared.NotedPlace.{NotedPlace}
use Rattle.hy_event.specs.declared.SessionData.{SessionData}
use Rattle.hy_event.specs.Sessions.{lies_in}

-- ---- positions in order

-- a noted position, as one that is written
abbrev pub written_place : NotedPlace → Place
written_place noted = record { table = noted.table; pos = noted.pos }

-- whether a position comes before this one, by table and then position
abbrev pub comes_before : ℕ → ℕ → Place → Bool
comes_before table pos place = nat_lt place.table table || (place.table == table && nat_lt place.pos pos)

-- each comes before all behind it
abbrev pub Rises : List Place → Type 0
Rises [] = Unit {0}
Rises (place ∷ places) = AllByRecursion (λ later. comes_before later.table later.pos place ≡ true) places × Rises places

-- its position, if it is one of this table
abbrev pub of_table : ℕ → Option Place → Option ℕ
of_table table None = None
of_table table (Some place) = if place.table == table then Some place.pos else None

-- whether it is one of a table from this one on
abbrev pub is_from : ℕ → ℕ → Place → Bool
is_from table from place = place.table == table && nat_le from place.pos

-- the first of these positions that is
abbrev pub first_from : ℕ → ℕ → List Place → Option ℕ
first_from table from [] = None
first_from table from (place ∷ places) = if is_from table from place then Some place.pos else first_from table from places

-- the first chunk of a table from one on in which one of these positions lies
pub record IsFirstChunk (session : SessionData) (places : List Place) (table from next : ℕ) : Type 0 where
  pub after : from ≤ next
  pub within : next < session.chunks
  pub written : list_any (lies_in session table next) places ≡ true
  pub first : (chunk : ℕ) → from ≤ chunk → chunk < next → list_any (lies_in session table chunk) places ≡ false

-- that chunk, or none, where there is none
abbrev pub IsNextChunk : SessionData → List Place → ℕ → ℕ → Option ℕ → Type 0
IsNextChunk session places table from None = (chunk : ℕ) → from ≤ chunk → chunk < session.chunks → list_any (lies_in session table chunk) places ≡ false
IsNextChunk session places table from (Some next) = IsFirstChunk session places table from next

-- ---- the chunks of a table

-- a chunk of the table, or one that is so many behind the table's chunks
abbrev pub sought : ℕ → Result ℕ ℕ → List (ℕ × ℕ) → Option (ℕ × ℕ)
sought table (Ok chunk) others = Some (table, chunk)
sought table (Err behind) others = slice_get others behind
