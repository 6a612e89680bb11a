-- What is own after going back to a savepoint: at each position, and that own positions stay own.
use Rattle.std.proofs.Common.{◌≡◌, ℕ, zero, suc, ◌+◌, List, [], ◌∷◌, Option, None, Some, is_some, length, get_or, ◌⊎◌, inl, inr}
use Rattle.std.proofs.Common.{refl, ap, sym, ◌∙◌, subst, arith}
use Rattle.std.proofs.lemmas.List.{ext_get_or}
use Rattle.hy_machine.specs.Positions.{item_at}
use Rattle.hy_machine.specs.Tables.{Cell, Tables, Own, covered}
use Rattle.hy_replay.specs.Ran.{back_cell, back_cells, back_tables, taken_back}

-- what is not one's own later never was
abbrev pub Grows : Own → Own → Type 0
Grows own later = (table pos : ℕ) → item_at later table pos ≡ None → item_at own table pos ≡ None

-- lists of as many lists, each as long, that have the same at each position are the same
pub same_items : {A : Type 0} (lists others : List (List (Option A))) → length lists ≡ length others
    → ((table : ℕ) → length (get_or lists table []) ≡ length (get_or others table []))
    → ((table pos : ℕ) → item_at lists table pos ≡ item_at others table pos) → lists ≡ others
same_items lists others many long same =
    ext_get_or [] lists others many
    (λ table below. ext_get_or None (get_or lists table []) (get_or others table []) (long table) (λ pos within. same table pos))

-- ---- at each position

cells_long : (cell : ℕ → Cell) (was : ℕ → Option Cell) (pos : ℕ) (own : List (Option Cell)) → length (back_cells cell was pos own) ≡ length own
cells_long cell was pos [] = refl
cells_long cell was pos (now ∷ own) = ap suc (cells_long cell was (suc pos) own)

cells_at : (cell : ℕ → Cell) (was : ℕ → Option Cell) (pos : ℕ) (own : List (Option Cell)) (i : ℕ)
    → get_or (back_cells cell was pos own) i None ≡ back_cell (cell (i + pos)) (was (i + pos)) (get_or own i None)
cells_at cell was pos [] i = refl
cells_at cell was pos (now ∷ own) zero = ap (λ (n : ℕ). back_cell (cell n) (was n) now) (let e : pos ≡ 0 + pos = omega arith in e)
cells_at cell was pos (now ∷ own) (suc i) =
    subst (λ (n : ℕ). get_or (back_cells cell was (suc pos) own) i None ≡ back_cell (cell n) (was n) (get_or own i None))
    (let e : i + suc pos ≡ suc i + pos = omega arith in e) (cells_at cell was (suc pos) own i)

tables_long : (tables : Tables) (was : Own) (table : ℕ) (own : Own) → length (back_tables tables was table own) ≡ length own
tables_long tables was table [] = refl
tables_long tables was table (cells ∷ own) = ap suc (tables_long tables was (suc table) own)

tables_at : (tables : Tables) (was : Own) (table : ℕ) (own : Own) (i : ℕ)
    → get_or (back_tables tables was table own) i [] ≡ back_cells (item_at tables (i + table)) (item_at was (i + table)) 0 (get_or own i [])
tables_at tables was table [] i = refl
tables_at tables was table (cells ∷ own) zero =
    ap (λ (n : ℕ). back_cells (item_at tables n) (item_at was n) 0 cells) (let e : table ≡ 0 + table = omega arith in e)
tables_at tables was table (cells ∷ own) (suc i) =
    subst (λ (n : ℕ). get_or (back_tables tables was (suc table) own) i [] ≡ back_cells (item_at tables n) (item_at was n) 0 (get_or own i []))
    (let e : i + suc table ≡ suc i + table = omega arith in e) (tables_at tables was (suc table) own i)

-- what is own at a position after going back
pub back_item : (tables : Tables) (was own : Own) (table pos : ℕ)
    → item_at (taken_back tables was own) table pos ≡ back_cell (item_at tables table pos) (item_at was table pos) (item_at own table pos)
back_item tables was own table pos =
    ap (λ (cells : List (Option Cell)). get_or cells pos None) (tables_at tables was 0 own table)
    ∙ (cells_at (item_at tables (table + 0)) (item_at was (table + 0)) 0 (get_or own table []) pos
    ∙ (ap (λ (t : ℕ). back_cell (item_at tables t (pos + 0)) (item_at was t (pos + 0)) (item_at own table pos)) (let e : table + 0 ≡ table = omega arith in e)
    ∙ ap (λ (p : ℕ). back_cell (item_at tables table p) (item_at was table p) (item_at own table pos)) (let e : pos + 0 ≡ pos = omega arith in e)))

-- ---- sizes

pub back_many : (tables : Tables) (was own : Own) → length (taken_back tables was own) ≡ length own
back_many tables was own = tables_long tables was 0 own

pub back_long : (tables : Tables) (was own : Own) (table : ℕ) → length (get_or (taken_back tables was own) table []) ≡ length (get_or own table [])
back_long tables was own table =
    ap length (tables_at tables was 0 own table) ∙ cells_long (item_at tables (table + 0)) (item_at was (table + 0)) 0 (get_or own table [])

-- ---- own positions stay own

cell_stays : (cell : Cell) (was own : Option Cell) → is_some (back_cell cell was own) ≡ is_some own
cell_stays cell was None = refl
cell_stays cell None (Some now) = refl
cell_stays cell (Some kept) (Some now) = refl

pub back_stays : (tables : Tables) (was own : Own) (table pos : ℕ) → is_some (item_at (taken_back tables was own) table pos) ≡ is_some (item_at own table pos)
back_stays tables was own table pos =
    ap is_some (back_item tables was own table pos) ∙ cell_stays (item_at tables table pos) (item_at was table pos) (item_at own table pos)

none_if : (item other : Option Cell) → is_some item ≡ is_some other → item ≡ None → other ≡ None
none_if item None same e = refl
none_if item (Some other) same e = absurd (cc (same, ap is_some e))

pub back_grows : (tables : Tables) (was own : Own) → Grows own (taken_back tables was own)
back_grows tables was own table pos e = none_if (item_at (taken_back tables was own) table pos) (item_at own table pos) (back_stays tables was own table pos) e

-- ---- what it depends on

-- an own position has the cell that was seen there then
pub back_is_seen : (cell : Cell) (was : Option Cell) (now : Cell) → back_cell cell was (Some now) ≡ Some (covered (λ (own : Cell). own) cell was)
back_is_seen cell None now = refl
back_is_seen cell (Some kept) now = refl

cell_again : (before after : Cell) (was own : Option Cell) → (before ≡ after) ⊎ (own ≡ None) → back_cell before was own ≡ back_cell after was own
cell_again before after was own (inl same) = ap (λ (cell : Cell). back_cell cell was own) same
cell_again before after was own (inr apart) =
    ap (back_cell before was) apart ∙ sym (ap (back_cell after was) apart)

-- over other tables that have the same cells at own positions it is the same
pub back_again : (tables others : Tables) (was own : Own)
    → ((table pos : ℕ) → (item_at tables table pos ≡ item_at others table pos) ⊎ (item_at own table pos ≡ None))
    → taken_back tables was own ≡ taken_back others was own
back_again tables others was own same =
    same_items (taken_back tables was own) (taken_back others was own) (back_many tables was own ∙ sym (back_many others was own))
    (λ table. back_long tables was own table ∙ sym (back_long others was own table))
    (λ table pos. back_item tables was own table pos
    ∙ (cell_again (item_at tables table pos) (item_at others table pos) (item_at was table pos) (item_at own table pos) (same table pos)
    ∙ sym (back_item others was own table pos)))
