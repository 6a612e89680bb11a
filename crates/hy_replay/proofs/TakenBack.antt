-- Own writes that are taken back fit the tables, and over these stands what stood there at the savepoint.
use Rattle.std.proofs.Common.{◌≡◌, ℕ, zero, suc, [], ◌∷◌, Option, None, Some, length, get_or, ◌<◌, inl, inr, refl, ap, sym, ◌∙◌, subst, arith}
use Rattle.std.proofs.lemmas.Bool.{cases_lt}
use Rattle.std.proofs.lemmas.List.{get_or_past}
use Rattle.hy_bound.specs.Records.{shape_of}
use Rattle.hy_machine.specs.declared.Setting.{Setting}
use Rattle.hy_machine.specs.Positions.{item_at}
use Rattle.hy_machine.specs.Tables.{Cell, Tables, Own, capacity, covered, over}
use Rattle.hy_replay.specs.Laws.{AreTables, HaveWidths}
use Rattle.hy_replay.specs.Ran.{back_cell, taken_back}
use Rattle.hy_replay.specs.TakenBack.{Grows, same_items, back_item, back_many, back_long}
use Rattle.hy_replay.proofs.Cells.{HasShape, over_shape, over_item, HasWidth, OwnWidth, width_at, FitsOwn}
use Rattle.hy_replay.proofs.OverCells.{Alike, HavePositions, over_length, positions_there}

-- ---- they fit

pub back_shape : (tables : Tables) (was own : Own) (count positions : ℕ) → HasShape own count positions → HasShape (taken_back tables was own) count positions
back_shape tables was own count positions s = record {
  lists_are = back_many tables was own ∙ s.lists_are;
  items_are = λ table below. back_long tables was own table ∙ s.items_are table below;
}

back_width : (width : ℕ) (cell : Cell) (was own : Option Cell) → HasWidth width cell → OwnWidth width was → OwnWidth width (back_cell cell was own)
back_width width cell was None c w = tt
back_width width cell None (Some now) c w = c
back_width width cell (Some kept) (Some now) c w = w

pub back_fits : (setting : Setting) (tables : Tables) (was own : Own) → AreTables setting tables → HaveWidths setting.shapes tables → FitsOwn setting was
    → FitsOwn setting own → FitsOwn setting (taken_back tables was own)
back_fits setting tables was own are wide kept fits = record {
  shape = back_shape tables was own (length setting.first) (capacity setting) fits.shape;
  widths = λ table pos. subst (OwnWidth (shape_of setting.shapes table).width) (sym (back_item tables was own table pos))
      (back_width (shape_of setting.shapes table).width (item_at tables table pos) (item_at was table pos) (item_at own table pos)
      (width_at (shape_of setting.shapes table).width (get_or tables table []) (wide table) pos) (kept.widths table pos));
}

-- ---- what stands over the tables

covered_back : (cell : Cell) (was own : Option Cell) → (own ≡ None → was ≡ None)
    → covered (λ (one : Cell). one) cell (back_cell cell was own) ≡ covered (λ (one : Cell). one) cell was
covered_back cell was None grows = ap (covered (λ (one : Cell). one) cell) (sym (grows refl))
covered_back cell None (Some now) grows = refl
covered_back cell (Some kept) (Some now) grows = refl

list_long : (tables others : Tables) (count positions : ℕ) → HasShape tables count positions → HasShape others count positions
    → (table : ℕ) → length (get_or tables table []) ≡ length (get_or others table [])
list_long tables others count positions s o table = elim (cases_lt table count) [
  | inl below ↦ s.items_are table below ∙ sym (o.items_are table below)
  | inr past ↦ ap length (get_or_past tables table [] (omega (arith, s.lists_are, past)) ∙ sym (get_or_past others table [] (omega (arith, o.lists_are, past))))
]

-- over the tables with own writes that are taken back stands what stood there then
pub over_back : (tables : Tables) (was own : Own) (count positions : ℕ) → HasShape tables count positions → HasShape was count positions
    → HasShape own count positions → Grows was own → over tables (taken_back tables was own) ≡ over tables was
over_back tables was own count positions s w o grows =
    same_items (over tables (taken_back tables was own)) (over tables was) (over_length tables (taken_back tables was own) ∙ sym (over_length tables was))
    (list_long (over tables (taken_back tables was own)) (over tables was) count positions
    (over_shape tables (taken_back tables was own) count positions s) (over_shape tables was count positions s))
    (λ table pos. over_item tables (taken_back tables was own) count positions table pos s (back_shape tables was own count positions o)
    ∙ (ap (covered (λ (one : Cell). one) (item_at tables table pos)) (back_item tables was own table pos)
    ∙ (covered_back (item_at tables table pos) (item_at was table pos) (item_at own table pos) (grows table pos)
    ∙ sym (over_item tables was count positions table pos s w))))

-- ---- they are as long as the tables

alike_as : (tables : Tables) (own other : Own) → Alike tables own → length other ≡ length own
    → ((table : ℕ) → length (get_or other table []) ≡ length (get_or own table [])) → Alike tables other
alike_as [] [] [] h many long = tt
alike_as [] [] (items ∷ other) h many long = absurd (omega (arith, many))
alike_as [] (items ∷ own) other h many long = absurd h
alike_as (cells ∷ tables) [] other h many long = absurd h
alike_as (cells ∷ tables) (items ∷ own) [] h many long = absurd (omega (arith, many))
alike_as (cells ∷ tables) (items ∷ own) (more ∷ other) h many long =
    (long zero ∙ h.0, alike_as tables own other h.1 (omega (arith, many)) (λ table. long (suc table)))

pub back_alike : (tables : Tables) (was own : Own) → Alike tables own → Alike tables (taken_back tables was own)
back_alike tables was own h = alike_as tables own (taken_back tables was own) h (back_many tables was own) (back_long tables was own)

many_alike : (tables : Tables) (own : Own) → Alike tables own → length own ≡ length tables
many_alike [] [] h = refl
many_alike [] (items ∷ own) h = absurd h
many_alike (cells ∷ tables) [] h = absurd h
many_alike (cells ∷ tables) (items ∷ own) h = ap suc (many_alike tables own h.1)

long_alike : (tables : Tables) (own : Own) (positions : ℕ) → HavePositions positions tables → Alike tables own → (table : ℕ) → table < length tables
    → length (get_or own table []) ≡ positions
long_alike [] own positions h a table below = absurd (omega (arith, below))
long_alike (cells ∷ tables) [] positions h a table below = absurd a
long_alike (cells ∷ tables) (items ∷ own) positions h a zero below = a.0 ∙ h.0
long_alike (cells ∷ tables) (items ∷ own) positions h a (suc table) below = long_alike tables own positions h.1 a.1 table (omega (arith, below))

-- own writes that are as long as tables of so many positions
pub alike_shape : (tables : Tables) (own : Own) (positions : ℕ) → HavePositions positions tables → Alike tables own
    → HasShape own (length tables) positions
alike_shape tables own positions h a = record { lists_are = many_alike tables own a; items_are = long_alike tables own positions h a }

-- the same where own writes are as long as the tables
pub over_back_alike : (tables : Tables) (was own : Own) (positions : ℕ) → HavePositions positions tables → Alike tables was → Alike tables own
    → Grows was own → over tables (taken_back tables was own) ≡ over tables was
over_back_alike tables was own positions h w o grows =
    over_back tables was own (length tables) positions
    (record { lists_are = refl; items_are = λ table below. positions_there positions tables table h below })
    (alike_shape tables was positions h w) (alike_shape tables own positions h o) grows
