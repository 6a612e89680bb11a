-- The places of what stands at positions of tables are positions, in order.
use Rattle.std.proofs.Common.{◌≡◌, ℕ, suc, ◌+◌, ◌*◌, ◌<◌, ◌≤◌, List, [], ◌∷◌, ◌++◌, Option, None, Some, true, length, refl, ap, sym, ◌∙◌, subst}
use Rattle.std.proofs.Common.{arith, inl, inr, ◌⊎◌}
use Rattle.std.specs.Prelude.{◌&&◌, ◌==◌, nat_lt}
use Rattle.std.specs.List.{AllByRecursion, list_all}
use Rattle.std.proofs.lemmas.Bool.{eq-eqb, lt-ltb}
use Rattle.std.proofs.lemmas.List.Folds.{list_all-append}
use Rattle.hy_value.specs.declared.change.Change.{Change}
use Rattle.hy_render.specs.declared.Place.{Place}
use Rattle.hy_machine.specs.declared.Setting.{Setting}
use Rattle.hy_machine.specs.Tables.{Entry, Pair, Cell, Own, capacity}
use Rattle.hy_machine.specs.Positions.{by_position, by_table, by_place}
use Rattle.hy_machine.specs.Writes.{place_at, written}
use Rattle.hy_machine.specs.Validation.{change_between, change_at, committed_of}
use Rattle.hy_lawful.specs.Positions.{places_of, is_position, comes_before, ascend, ArePositions}
use Rattle.hy_lawful.proofs.Fits.{FitsTables}
use Rattle.hy_lawful.proofs.Booleans.{and_true, or_first, or_second}

-- a place is at a position of a table or behind it
abbrev IsFrom : ℕ → ℕ → Place → Type 0
IsFrom table pos place = (table < place.table) ⊎ ((table ≡ place.table) × (pos ≤ place.pos))

-- places rise, from this one on
abbrev Rises : ℕ → ℕ → List Place → Type 0
Rises table pos [] = Unit {0}
Rises table pos (place ∷ places) = IsFrom table pos place × Rises place.table (suc place.pos) places

before_is : (place other : Place) → IsFrom place.table (suc place.pos) other → comes_before place other ≡ true
before_is place other (inl h) =
    or_first (nat_lt place.table other.table) (place.table == other.table && nat_lt place.pos other.pos) (lt-ltb place.table other.table h)
before_is place other (inr h) =
    or_second (nat_lt place.table other.table) (place.table == other.table && nat_lt place.pos other.pos)
    (and_true (place.table == other.table) (nat_lt place.pos other.pos) (eq-eqb place.table other.table h.0)
    (lt-ltb place.pos other.pos (omega (arith, h.1))))

ascends : (table pos : ℕ) (places : List Place) → Rises table pos places → ascend places ≡ true
ascends table pos [] r = refl
ascends table pos (place ∷ []) r = refl
ascends table pos (place ∷ next ∷ places) r =
    and_true (comes_before place next) (ascend (next ∷ places)) (before_is place next r.1.0) (ascends place.table (suc place.pos) (next ∷ places) r.1)

from_sooner : (table pos : ℕ) (place : Place) → IsFrom table (suc pos) place → IsFrom table pos place
from_sooner table pos place (inl h) = inl h
from_sooner table pos place (inr h) = inr (h.0, omega (arith, h.1))

from_table : (table pos : ℕ) (place : Place) → IsFrom (suc table) 0 place → IsFrom table pos place
from_table table pos place (inl h) = inl (omega (arith, h))
from_table table pos place (inr h) = inl (omega (arith, h.0))

rises_sooner : (table pos : ℕ) (places : List Place) → Rises table (suc pos) places → Rises table pos places
rises_sooner table pos [] r = tt
rises_sooner table pos (place ∷ places) r = (from_sooner table pos place r.0, r.1)

rises_table : (table pos : ℕ) (places : List Place) → Rises (suc table) 0 places → Rises table pos places
rises_table table pos [] r = tt
rises_table table pos (place ∷ places) r = (from_table table pos place r.0, r.1)

-- what stands at a position gives its place, or nothing
abbrev GivesPlaces : {A : Type 0} → (ℕ → ℕ → A → List Place) → Type 0
GivesPlaces {A = A} f = (table pos : ℕ) (item : A) → (f table pos item ≡ []) ⊎ (f table pos item ≡ record { table = table; pos = pos } ∷ [])

positions_rise : {A : Type 0} (f : ℕ → ℕ → A → List Place) → GivesPlaces f → (table pos : ℕ) (items : List (Option A)) (rest : List Place)
    → Rises (suc table) 0 rest → Rises table pos (by_position (f table) pos items ++ rest)
positions_rise f one table pos [] rest r = rises_table table pos rest r
positions_rise f one table pos (None ∷ items) rest r =
    rises_sooner table pos (by_position (f table) (suc pos) items ++ rest) (positions_rise f one table (suc pos) items rest r)
positions_rise f one table pos (Some item ∷ items) rest r =
    let later : Rises table (suc pos) (by_position (f table) (suc pos) items ++ rest) = positions_rise f one table (suc pos) items rest r in
    elim (one table pos item) [
      | inl e ↦ subst (λ (places : List Place). Rises table pos ((places ++ by_position (f table) (suc pos) items) ++ rest)) (sym e)
          (rises_sooner table pos (by_position (f table) (suc pos) items ++ rest) later)
      | inr e ↦ subst (λ (places : List Place). Rises table pos ((places ++ by_position (f table) (suc pos) items) ++ rest)) (sym e)
          (let here : pos ≤ pos = omega arith in (inr (refl, here), later))
    ]

tables_rise : {A : Type 0} (f : ℕ → ℕ → A → List Place) → GivesPlaces f → (table : ℕ) (lists : List (List (Option A)))
    → Rises table 0 (by_table f table lists)
tables_rise f one table [] = tt
tables_rise f one table (items ∷ lists) = positions_rise f one table 0 items (by_table f (suc table) lists) (tables_rise f one (suc table) lists)

-- ---- positions that the tables have

given_there : {A : Type 0} (setting : Setting) (f : ℕ → ℕ → A → List Place) → GivesPlaces f → (table pos : ℕ) (item : A) → table < length setting.first
    → pos < capacity setting → list_all (is_position setting) (f table pos item) ≡ true
given_there setting f one table pos item t p = elim (one table pos item) [
  | inl e ↦ ap (list_all (is_position setting)) e
  | inr e ↦ ap (list_all (is_position setting)) e
      ∙ and_true (is_position setting (record { table = table; pos = pos })) true
      (and_true (nat_lt table (length setting.first)) (nat_lt pos (setting.chunks * setting.rows)) (lt-ltb table (length setting.first) t)
      (lt-ltb pos (setting.chunks * setting.rows) p))
      refl
]

positions_there : {A : Type 0} (setting : Setting) (f : ℕ → ℕ → A → List Place) → GivesPlaces f → (table pos : ℕ) (items : List (Option A))
    → table < length setting.first → pos + length items ≤ capacity setting → list_all (is_position setting) (by_position (f table) pos items) ≡ true
positions_there setting f one table pos [] t p = refl
positions_there setting f one table pos (None ∷ items) t p = positions_there setting f one table (suc pos) items t (omega arith)
positions_there setting f one table pos (Some item ∷ items) t p =
    list_all-append (is_position setting) (f table pos item) (by_position (f table) (suc pos) items)
    ∙ and_true (list_all (is_position setting) (f table pos item)) (list_all (is_position setting) (by_position (f table) (suc pos) items))
    (given_there setting f one table pos item t (omega arith)) (positions_there setting f one table (suc pos) items t (omega arith))

tables_there : {A : Type 0} (setting : Setting) (f : ℕ → ℕ → A → List Place) → GivesPlaces f → (table : ℕ) (lists : List (List (Option A)))
    → table + length lists ≤ length setting.first → AllByRecursion (λ (items : List (Option A)). length items ≤ capacity setting) lists
    → list_all (is_position setting) (by_table f table lists) ≡ true
tables_there setting f one table [] t h = refl
tables_there setting f one table (items ∷ lists) t h =
    list_all-append (is_position setting) (by_position (f table) 0 items) (by_table f (suc table) lists)
    ∙ and_true (list_all (is_position setting) (by_position (f table) 0 items)) (list_all (is_position setting) (by_table f (suc table) lists))
    (positions_there setting f one table 0 items (omega arith) (omega (arith, h.0))) (tables_there setting f one (suc table) lists (omega arith) h.1)

are_positions : {A : Type 0} (setting : Setting) (f : ℕ → ℕ → A → List Place) → GivesPlaces f → (lists : List (List (Option A))) → FitsTables setting lists
    → ArePositions setting (by_place f lists)
are_positions setting f one lists h = record {
  there = tables_there setting f one 0 lists (omega (arith, h.tables)) h.positions;
  ascend = ascends 0 0 (by_place f lists) (tables_rise f one 0 lists);
}

-- what a transaction wrote
pub written_positions : (setting : Setting) (own : Own) → FitsTables setting own → ArePositions setting (written own)
written_positions setting own h = are_positions setting place_at (λ table pos cell. inr refl) own h

-- ---- what an entry changes

places_append : (changes others : List Change) → places_of (changes ++ others) ≡ places_of changes ++ places_of others
places_append [] others = refl
places_append (change ∷ changes) others = ap (λ (places : List Place). record { table = change.table; pos = change.pos } ∷ places)
    (places_append changes others)

abbrev changed_at : ℕ → ℕ → Pair → List Place
changed_at table pos pair = places_of (change_at table pos pair)

gives_between : (table pos : ℕ) (before after : Cell)
    → (places_of (change_between table pos before after) ≡ [])
    ⊎ (places_of (change_between table pos before after) ≡ record { table = table; pos = pos } ∷ [])
gives_between table pos None None = inl refl
gives_between table pos None (Some after) = inr refl
gives_between table pos (Some before) after = inr refl

places_in_table : (table pos : ℕ) (items : List (Option Pair))
    → places_of (by_position (change_at table) pos items) ≡ by_position (changed_at table) pos items
places_in_table table pos [] = refl
places_in_table table pos (None ∷ items) = places_in_table table (suc pos) items
places_in_table table pos (Some pair ∷ items) =
    places_append (change_at table pos pair) (by_position (change_at table) (suc pos) items)
    ∙ ap (λ (places : List Place). changed_at table pos pair ++ places) (places_in_table table (suc pos) items)

places_in_tables : (table : ℕ) (lists : List (List (Option Pair))) → places_of (by_table change_at table lists) ≡ by_table changed_at table lists
places_in_tables table [] = refl
places_in_tables table (items ∷ lists) =
    places_append (by_position (change_at table) 0 items) (by_table change_at (suc table) lists)
    ∙ (ap (λ (places : List Place). places ++ places_of (by_table change_at (suc table) lists)) (places_in_table table 0 items)
    ∙ ap (λ (places : List Place). by_position (changed_at table) 0 items ++ places) (places_in_tables (suc table) lists))

pub changed_positions : (setting : Setting) (entry : Entry) → FitsTables setting entry.cells → ArePositions setting (places_of (committed_of entry).changes)
changed_positions setting entry h = subst (ArePositions setting) (sym (places_in_tables 0 entry.cells))
    (are_positions setting changed_at (λ table pos pair. gives_between table pos pair.before pair.after) entry.cells h)
