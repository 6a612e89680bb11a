-- What is one's own after going back to a savepoint: at the same positions, with what was seen there then.
use Rattle.std.proofs.Common.{◌≡◌, ℕ, zero, suc, ◌+◌, ◌≤◌, List, [], ◌∷◌, Option, None, Some, Bool, false, length}
use Rattle.std.proofs.Common.{cond, is_some, refl, ap, ◌∙◌, arith}
use Rattle.std.specs.List.{AllByRecursion, list_any}
use Rattle.hy_bound.specs.declared.Bound.{Bound}
use Rattle.hy_bound.specs.declared.Bound.TheVariants.{Select, Group, Insert, Update, Delete, Savepoint, RollbackTo, Release}
use Rattle.hy_bound.specs.Savepoints.{Saved, kept_by, back_from, value_after}
use Rattle.hy_machine.specs.declared.Setting.{Setting}
use Rattle.hy_machine.specs.Positions.{item_at}
use Rattle.hy_machine.specs.Tables.{Cell, Tables, Own, capacity}
use Rattle.hy_replay.specs.TakenBack.{back_many}
use Rattle.hy_replay.specs.Ran.{back_cell, back_cells, back_tables, taken_back}
use Rattle.hy_lawful.proofs.Booleans.{or_left, or_right}
use Rattle.hy_lawful.proofs.Fits.{FitsTables}
use Rattle.hy_lawful.proofs.WroteFollows.{RoomIn, Room}
use Rattle.hy_lawful.proofs.WroteCounts.{passing_in, passing}

-- ---- after a statement, one goes back or not

kept_holds : {A : Type 0} (P : A → Type 0) (back : A → A → A) (now : A) (kept : Option A) → P now → ((was : A) → P (back was now))
    → P (back_from back now kept)
kept_holds P back now None h f = h
kept_holds P back now (Some was) h f = f was

-- what holds of what there is, and of whatever may be gone back to from it, holds after a statement
pub after_holds : {A : Type 0} (P : A → Type 0) (back : A → A → A) (statement : Bound) (saved : List (Saved A)) (now : A) → P now
    → ((was : A) → P (back was now)) → P (value_after back statement saved now)
after_holds P back (Select tables ons pred items) saved now h f = h
after_holds P back (Group of pred key aggregate) saved now h f = h
after_holds P back (Insert of row) saved now h f = h
after_holds P back (Update of sets pred) saved now h f = h
after_holds P back (Delete of pred) saved now h f = h
after_holds P back (Savepoint name) saved now h f = h
after_holds P back (RollbackTo name) saved now h f = kept_holds P back now (kept_by name saved) h f
after_holds P back (Release name) saved now h f = h

-- ---- it fits the tables, and has the same positions

items_long : (cell : ℕ → Cell) (was : ℕ → Option Cell) (first : ℕ) (items : List (Option Cell)) → length (back_cells cell was first items) ≡ length items
items_long cell was first [] = refl
items_long cell was first (item ∷ items) = ap suc (items_long cell was (suc first) items)

tables_short : (tables : Tables) (was : Own) (most first : ℕ) (own : Own) → AllByRecursion (λ (items : List (Option Cell)). length items ≤ most) own
    → AllByRecursion (λ (items : List (Option Cell)). length items ≤ most) (back_tables tables was first own)
tables_short tables was most first [] h = tt
tables_short tables was most first (items ∷ own) h =
    (omega (arith, h.0, items_long (item_at tables first) (item_at was first) 0 items), tables_short tables was most (suc first) own h.1)

pub back_fits : (setting : Setting) (tables : Tables) (was own : Own) → FitsTables setting own → FitsTables setting (taken_back tables was own)
back_fits setting tables was own h = record {
  tables = omega (arith, h.tables, back_many tables was own);
  positions = tables_short tables was (capacity setting) 0 own h.positions;
}

cells_room : (cell : ℕ → Cell) (was : ℕ → Option Cell) (first : ℕ) (items : List (Option Cell)) (pos : ℕ) → RoomIn items pos
    → RoomIn (back_cells cell was first items) pos
cells_room cell was first [] pos h = absurd h
cells_room cell was first (item ∷ items) zero h = tt
cells_room cell was first (item ∷ items) (suc pos) h = cells_room cell was (suc first) items pos h

tables_room : (tables : Tables) (was : Own) (first : ℕ) (own : Own) (table pos : ℕ) → Room own table pos → Room (back_tables tables was first own) table pos
tables_room tables was first [] table pos h = absurd h
tables_room tables was first (items ∷ own) zero pos h = cells_room (item_at tables first) (item_at was first) 0 items pos h
tables_room tables was first (items ∷ own) (suc table) pos h = tables_room tables was (suc first) own table pos h

pub back_room : (tables : Tables) (was own : Own) (table pos : ℕ) → Room own table pos → Room (taken_back tables was own) table pos
back_room tables was own table pos h = tables_room tables was 0 own table pos h

-- ---- as many positions pass a test

cells_pass : (test : ℕ → Bool) (cell : ℕ → Cell) (was : ℕ → Option Cell) (first : ℕ) (items : List (Option Cell))
    → passing_in test (back_cells cell was first items) ≡ passing_in test items
cells_pass test cell was first [] = refl
cells_pass test cell was first (None ∷ items) = cells_pass (λ pos. test (suc pos)) cell was (suc first) items
cells_pass test cell was first (Some now ∷ items) = by_item (was first) (cells_pass (λ pos. test (suc pos)) cell was (suc first) items)
  where
    by_item : (item : Option Cell) → passing_in (λ pos. test (suc pos)) (back_cells cell was (suc first) items) ≡ passing_in (λ pos. test (suc pos)) items
        → passing_in test (back_cell (cell first) item (Some now) ∷ back_cells cell was (suc first) items) ≡ passing_in test (Some now ∷ items)
    by_item None rest = ap (λ (n : ℕ). cond (test 0) 1 0 + n) rest
    by_item (Some before) rest = ap (λ (n : ℕ). cond (test 0) 1 0 + n) rest

tables_pass : (test : ℕ → ℕ → Bool) (tables : Tables) (was : Own) (first : ℕ) (own : Own)
    → passing test (back_tables tables was first own) ≡ passing test own
tables_pass test tables was first [] = refl
tables_pass test tables was first (items ∷ own) =
    ap (λ (n : ℕ). n + passing (λ table. test (suc table)) (back_tables tables was (suc first) own))
    (cells_pass (test 0) (item_at tables first) (item_at was first) 0 items)
    ∙ ap (λ (n : ℕ). passing_in (test 0) items + n) (tables_pass (λ table. test (suc table)) tables was (suc first) own)

pub back_passes : (test : ℕ → ℕ → Bool) (tables : Tables) (was own : Own) → passing test (taken_back tables was own) ≡ passing test own
back_passes test tables was own = tables_pass test tables was 0 own

-- ---- where nothing is own, nothing is after going back

no_cells_back : (cell : ℕ → Cell) (was : ℕ → Option Cell) (first : ℕ) (items : List (Option Cell)) → list_any is_some items ≡ false
    → back_cells cell was first items ≡ items
no_cells_back cell was first [] h = refl
no_cells_back cell was first (None ∷ items) h = ap (λ (rest : List (Option Cell)). None ∷ rest) (no_cells_back cell was (suc first) items h)
no_cells_back cell was first (Some now ∷ items) h = absurd cc

no_tables_back : (tables : Tables) (was : Own) (first : ℕ) (own : Own) → list_any (list_any is_some) own ≡ false → back_tables tables was first own ≡ own
no_tables_back tables was first [] h = refl
no_tables_back tables was first (items ∷ own) h =
    ap (λ (back : List (Option Cell)). back ∷ back_tables tables was (suc first) own)
    (no_cells_back (item_at tables first) (item_at was first) 0 items (or_left (list_any is_some items) (list_any (list_any is_some) own) h))
    ∙ ap (λ (back : Own). items ∷ back)
    (no_tables_back tables was (suc first) own (or_right (list_any is_some items) (list_any (list_any is_some) own) h))

pub nothing_back : (tables : Tables) (was own : Own) → list_any (list_any is_some) own ≡ false → taken_back tables was own ≡ own
nothing_back tables was own h = no_tables_back tables was 0 own h
