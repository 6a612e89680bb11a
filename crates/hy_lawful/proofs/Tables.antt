-- What a transaction writes fits the tables, and its places are positions, in order.
use Rattle.std.proofs.Common.{◌≡◌, ℕ, zero, suc, ◌<◌, ◌≤◌, List, [], ◌∷◌, ◌++◌, Option, None, Some, true, false, length, map, get_or, replicate}
use Rattle.std.proofs.Common.{is_some, refl, ap, sym, ◌∙◌, arith, inl, inr}
use Rattle.std.proofs.Math.ListN.{set}
use Rattle.std.specs.Prelude.{◌||◌}
use Rattle.std.specs.List.{AllByRecursion, list_any}
use Rattle.std.proofs.lemmas.Bool.{cases_Bool}
use Rattle.std.proofs.lemmas.List.{length-append, length-map, length-set}
use Rattle.hy_value.specs.declared.Value.{Value}
use Rattle.hy_render.specs.declared.Place.{Place}
use Rattle.hy_machine.specs.declared.Setting.{Setting}
use Rattle.hy_machine.specs.States.{State, Begun}
use Rattle.hy_machine.specs.Writes.{Write, blank_own, with_write, with_writes, wrote_nothing, place_at, written}
use Rattle.hy_machine.specs.Tables.{Pair, Cell, Tables, Own, capacity}
use Rattle.hy_machine.specs.Positions.{by_position, by_table, item_at}
use Rattle.hy_machine.specs.Sessions.{pairs_from, entry_cells, entry_of, snapshot}
use Rattle.hy_lawful.proofs.Fits.{FitsTables}
use Rattle.hy_lawful.proofs.Booleans.{or_left, or_right, not_false, not_true}

-- ---- what a transaction writes fits the tables

pub set_all : {X : Type 0} (P : X → Type 0) (xs : List X) (i : ℕ) (x : X) → AllByRecursion P xs → P x → AllByRecursion P (set xs i x)
set_all P [] i x h p = tt
set_all P (y ∷ xs) zero x h p = (p, h.1)
set_all P (y ∷ xs) (suc i) x h p = (h.0, set_all P xs i x h.1 p)

pub got_of : {X : Type 0} (P : X → Type 0) (xs : List X) (i : ℕ) (x : X) → AllByRecursion P xs → P x → P (get_or xs i x)
got_of P [] i x h p = p
got_of P (y ∷ xs) zero x h p = h.0
got_of P (y ∷ xs) (suc i) x h p = got_of P xs i x h.1 p

write_fits : (setting : Setting) (own : Own) (write : Write) → FitsTables setting own → FitsTables setting (with_write own write)
write_fits setting own write h = record {
  tables = omega (arith, h.tables, length-set own write.table (set (get_or own write.table []) write.pos (Some write.cell)));
  positions = set_all (λ (items : List (Option Cell)). length items ≤ capacity setting) own write.table
      (set (get_or own write.table []) write.pos (Some write.cell)) h.positions
      (omega (
        arith,
        length-set (get_or own write.table []) write.pos (Some write.cell),
        got_of (λ (items : List (Option Cell)). length items ≤ capacity setting) own write.table [] h.positions (omega arith),
      ));
}

pub writes_fit : (setting : Setting) (own : Own) (writes : List Write) → FitsTables setting own → FitsTables setting (with_writes own writes)
writes_fit setting own [] h = h
writes_fit setting own (write ∷ writes) h = writes_fit setting (with_write own write) writes (write_fits setting own write h)

replicate_length : {X : Type 0} (n : ℕ) (x : X) → length (replicate n x) ≡ n
replicate_length zero x = refl
replicate_length (suc n) x = ap suc (replicate_length n x)

blank_all : (n : ℕ) (rows : List (List (List Value))) → AllByRecursion (λ (items : List (Option Cell)). length items ≤ n) (map (λ one. replicate n None) rows)
blank_all n [] = tt
blank_all n (one ∷ rows) = (omega (arith, replicate_length {X = Option Cell} n None), blank_all n rows)

pub blank_fits : (setting : Setting) → FitsTables setting (blank_own setting)
blank_fits setting = record {
  tables = omega (arith, length-map setting.first (λ (rows : List (List Value)). replicate {A = Option Cell} (capacity setting) None));
  positions = blank_all (capacity setting) setting.first;
}

pairs_length : (before : ℕ → Cell) (pos : ℕ) (owns : List (Option Cell)) → length (pairs_from before pos owns) ≡ length owns
pairs_length before pos [] = refl
pairs_length before pos (own ∷ owns) = ap suc (pairs_length before (suc pos) owns)

cells_length : (tables : Tables) (table : ℕ) (own : Own) → length (entry_cells tables table own) ≡ length own
cells_length tables table [] = refl
cells_length tables table (cells ∷ own) = ap suc (cells_length tables (suc table) own)

cells_all : (most : ℕ) (tables : Tables) (table : ℕ) (own : Own) → AllByRecursion (λ (items : List (Option Cell)). length items ≤ most) own
    → AllByRecursion (λ (items : List (Option Pair)). length items ≤ most) (entry_cells tables table own)
cells_all most tables table [] h = tt
cells_all most tables table (cells ∷ own) h = (
  omega (arith, h.0, pairs_length (item_at tables table) 0 cells),
  cells_all most tables (suc table) own h.1,
)

pub entry_fits : (setting : Setting) (state : State) (number : ℕ) (begun : Begun) → FitsTables setting begun.own
    → FitsTables setting (entry_of setting state number begun).cells
entry_fits setting state number begun h = record {
  tables = omega (arith, h.tables, cells_length (snapshot setting state begun.prefix) 0 begun.own);
  positions = cells_all (capacity setting) (snapshot setting state begun.prefix) 0 begun.own h.positions;
}

-- ---- whether something was written

no_places : (table pos : ℕ) (cells : List (Option Cell)) → list_any is_some cells ≡ false → by_position (place_at table) pos cells ≡ []
no_places table pos [] h = refl
no_places table pos (None ∷ cells) h = no_places table (suc pos) cells h
no_places table pos (Some cell ∷ cells) h = absurd cc

some_places : (table pos : ℕ) (cells : List (Option Cell)) → list_any is_some cells ≡ true → 0 < length (by_position (place_at table) pos cells)
some_places table pos [] h = absurd cc
some_places table pos (None ∷ cells) h = some_places table (suc pos) cells h
some_places table pos (Some cell ∷ cells) h = omega arith

pub none_from : (table : ℕ) (own : Own) → list_any (list_any is_some) own ≡ false → by_table place_at table own ≡ []
none_from table [] h = refl
none_from table (cells ∷ own) h =
    ap (λ (places : List Place). places ++ by_table place_at (suc table) own)
    (no_places table 0 cells (or_left (list_any is_some cells) (list_any (list_any is_some) own) h))
    ∙ none_from (suc table) own (or_right (list_any is_some cells) (list_any (list_any is_some) own) h)

some_from : (table : ℕ) (own : Own) → list_any (list_any is_some) own ≡ true → 0 < length (by_table place_at table own)
some_from table [] h = absurd cc
some_from table (cells ∷ own) h = elim (cases_Bool (list_any is_some cells)) [
  | inl t ↦ omega (arith, some_places table 0 cells t, length-append (by_position (place_at table) 0 cells) (by_table place_at (suc table) own))
  | inr f ↦ omega (
    arith,
    some_from (suc table) own (ap (λ b. b || list_any (list_any is_some) own) (sym f) ∙ h),
    length-append (by_position (place_at table) 0 cells) (by_table place_at (suc table) own),
  )
]

pub nothing_written : (own : Own) → wrote_nothing own ≡ true → length (written own) ≡ 0
nothing_written own e = ap length (none_from 0 own (not_true (list_any (list_any is_some) own) e))

pub something_written : (own : Own) → wrote_nothing own ≡ false → 0 < length (written own)
something_written own e = some_from 0 own (not_false (list_any (list_any is_some) own) e)
