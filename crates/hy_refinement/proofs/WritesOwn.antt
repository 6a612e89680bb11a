-- What a transaction has written at each position, after writes of some positions of a table.
use Rattle.std.proofs.Common.{◌≡◌, ℕ, zero, suc, ◌+◌, ◌<◌, ◌≤◌, List, [], ◌∷◌, ◌++◌, length, map, set, get_or, Option, None, Some}
use Rattle.std.proofs.Common.{refl, sym, ap, ◌∙◌, subst, arith, inl, inr}
use Rattle.std.specs.Prelude.{slice_get}
use Rattle.std.specs.Option.{option_or}
use Rattle.std.specs.List.{AllByRecursion}
use Rattle.std.proofs.lemmas.Bool.{cases_eq, cases_lt}
use Rattle.std.proofs.lemmas.List.{get_or-set_same, get_or-set_other, get_or_past, length-set}
use Rattle.std.proofs.lemmas.List.FromFn.{length-map-range_with_len}
use Rattle.std.proofs.lemmas.Option.{same_Some}
use Rattle.hy_value.specs.declared.Value.{Value}
use Rattle.hy_machine.specs.declared.Setting.{Setting}
use Rattle.hy_machine.specs.Writes.{Write, with_write, with_writes}
use Rattle.hy_machine.specs.Positions.{item_at}
use Rattle.hy_machine.specs.Tables.{Cell, Own, capacity, laid_out, opening_tables}
use Rattle.hy_machine.specs.Visits.{write_of}
use Rattle.hy_refinement.specs.Free.{HasPosition}
use Rattle.hy_machine.specs.Kept.{OwnFits}

-- ---- lists

all_at : {A : Type 0} (P : A → Type 0) (xs : List A) (k : ℕ) (default : A) → AllByRecursion P xs → k < length xs → P (get_or xs k default)
all_at P [] k default all below = absurd (omega (arith, below))
all_at P (x ∷ xs) zero default all below = all.0
all_at P (x ∷ xs) (suc k) default all below = all_at P xs k default all.1 (omega (arith, below))

all_set : {A : Type 0} (P : A → Type 0) (xs : List A) (k : ℕ) (y : A) → AllByRecursion P xs → P y → AllByRecursion P (set xs k y)
all_set P [] k y all here = tt
all_set P (x ∷ xs) zero y all here = (here, all.1)
all_set P (x ∷ xs) (suc k) y all here = (all.0, all_set P xs k y all.1 here)

-- ---- positions

-- a table's own cells are as many as it has positions
pub own_long : (setting : Setting) (own : Own) (table : ℕ) → OwnFits setting own → table < length setting.first
    → length (get_or own table []) ≡ capacity setting
own_long setting own table fits below =
    let tables = fits.tables in
    all_at (λ (cells : List (Option Cell)). length cells ≡ capacity setting) own table [] fits.positions (omega (arith, tables, below))

-- where something is written there is a position
pub own_within : (setting : Setting) (own : Own) (table pos : ℕ) (cell : Cell) → OwnFits setting own → item_at own table pos ≡ Some cell
    → (table < length setting.first) × (pos < capacity setting)
own_within setting own table pos cell fits e = elim (cases_lt table (length setting.first)) [
  | inr past ↦
      let tables = fits.tables in
      absurd (let f : None ≡ Some cell = sym (ap (λ (items : List (Option Cell)). get_or items pos None) (get_or_past own table []
      (omega (arith, tables, past)))) ∙ e in cc)
  | inl below ↦ elim (cases_lt pos (capacity setting)) [
    | inl within ↦ (below, within)
    | inr past ↦
        let long = own_long setting own table fits below in
        absurd (let f : None ≡ Some cell = sym (get_or_past (get_or own table []) pos None (omega (arith, long, past))) ∙ e in cc)
  ]
]

laid : (rows : ℕ) (firsts : List (List (List Value))) (table : ℕ) → table < length firsts
    → (table < length (map (laid_out rows) firsts)) × (length (get_or (map (laid_out rows) firsts) table []) ≡ rows)
laid rows [] table below = absurd (omega (arith, below))
laid rows (first ∷ firsts) zero below = (omega arith, length-map-range_with_len (slice_get first) 0 rows)
laid rows (first ∷ firsts) (suc table) below =
    let rest = laid rows firsts table (omega (arith, below)) in
    (let l = rest.0 in omega (arith, l), rest.1)

-- the tables have each position of each chunk
pub has_position : (setting : Setting) (table pos : ℕ) → table < length setting.first → pos < capacity setting → HasPosition (opening_tables setting) table pos
has_position setting table pos below within =
    let l = laid (capacity setting) setting.first table below in record {
      table_below = l.0;
      pos_below = let e = l.1 in omega (arith, e, within);
    }

-- ---- one write

pub write_here : (setting : Setting) (own : Own) (write : Write) → OwnFits setting own → write.table < length setting.first → write.pos < capacity setting
    → item_at (with_write own write) write.table write.pos ≡ Some write.cell
write_here setting own write fits below within =
    let tables = fits.tables in
    let long = own_long setting own write.table fits below in
    ap (λ (items : List (Option Cell)). get_or items write.pos None)
    (get_or-set_same own write.table (set (get_or own write.table []) write.pos (Some write.cell)) [] (omega (arith, tables, below)))
    ∙ get_or-set_same (get_or own write.table []) write.pos (Some write.cell) None (omega (arith, long, within))

pub write_away : (setting : Setting) (own : Own) (write : Write) (table pos : ℕ) → OwnFits setting own → write.table < length setting.first
    → ((table ≡ write.table) × (pos ≡ write.pos) → ⊥) → item_at (with_write own write) table pos ≡ item_at own table pos
write_away setting own write table pos fits below apart = elim (cases_eq table write.table) [
  | inr other ↦ ap (λ (items : List (Option Cell)). get_or items pos None)
      (get_or-set_other own write.table table (set (get_or own write.table []) write.pos (Some write.cell)) [] other)
  | inl same ↦
      let tables = fits.tables in
      ap (λ (n : ℕ). item_at (with_write own write) n pos) same
      ∙ (ap (λ (items : List (Option Cell)). get_or items pos None)
      (get_or-set_same own write.table (set (get_or own write.table []) write.pos (Some write.cell)) [] (omega (arith, tables, below)))
      ∙ (get_or-set_other (get_or own write.table []) write.pos pos (Some write.cell) None (λ there. apart (same, there))
      ∙ sym (ap (λ (n : ℕ). item_at own n pos) same)))
]

pub write_fits : (setting : Setting) (own : Own) (write : Write) → OwnFits setting own → write.table < length setting.first
    → OwnFits setting (with_write own write)
write_fits setting own write fits below = record {
  tables = length-set own write.table (set (get_or own write.table []) write.pos (Some write.cell)) ∙ fits.tables;
  positions = all_set (λ (cells : List (Option Cell)). length cells ≡ capacity setting) own write.table (set (get_or own write.table []) write.pos
      (Some write.cell)) fits.positions
      (length-set (get_or own write.table []) write.pos (Some write.cell) ∙ own_long setting own write.table fits below);
}

-- ---- writes at positions one after another

-- the writes of these cells, where there are some, at positions from this one on
abbrev pub writes_from : ℕ → ℕ → List (Option Cell) → List Write
writes_from table pos [] = []
writes_from table pos (cell ∷ cells) = write_of table pos cell ++ writes_from table (suc pos) cells

pub writes_fit : (setting : Setting) (table first : ℕ) (cells : List (Option Cell)) (own : Own) → OwnFits setting own → table < length setting.first
    → OwnFits setting (with_writes own (writes_from table first cells))
writes_fit setting table first [] own fits below = fits
writes_fit setting table first (None ∷ cells) own fits below = writes_fit setting table (suc first) cells own fits below
writes_fit setting table first (Some cell ∷ cells) own fits below =
    let write : Write = record { table = table; pos = first; cell = cell } in
    writes_fit setting table (suc first) cells (with_write own write) (write_fits setting own write fits below) below

-- elsewhere nothing changes
pub writes_away : (setting : Setting) (table first : ℕ) (cells : List (Option Cell)) (own : Own) (other pos : ℕ) → OwnFits setting own
    → table < length setting.first
    → (other ≡ table → first ≤ pos → pos < first + length cells → ⊥)
    → item_at (with_writes own (writes_from table first cells)) other pos ≡ item_at own other pos
writes_away setting table first [] own other pos fits below apart = refl
writes_away setting table first (None ∷ cells) own other pos fits below apart =
    writes_away setting table (suc first) cells own other pos fits below (λ e l m. apart e (omega (arith, l)) (omega (arith, m)))
writes_away setting table first (Some cell ∷ cells) own other pos fits below apart =
    let write : Write = record { table = table; pos = first; cell = cell } in
    writes_away setting table (suc first) cells (with_write own write) other pos (write_fits setting own write fits below) below
    (λ e l m. apart e (omega (arith, l)) (omega (arith, m)))
    ∙ write_away setting own write other pos fits below (λ same. let at = same.1 in apart same.0 (omega (arith, at)) (omega (arith, at)))

-- at each of the positions is its cell, or what was there
pub writes_at : (setting : Setting) (table first : ℕ) (cells : List (Option Cell)) (own : Own) (i : ℕ) (cell : Option Cell) → OwnFits setting own
    → table < length setting.first → first + length cells ≤ capacity setting → slice_get cells i ≡ Some cell
    → item_at (with_writes own (writes_from table first cells)) table (first + i) ≡ option_or cell (item_at own table (first + i))
writes_at setting table first [] own i cell fits below room e = absurd cc
writes_at setting table first (None ∷ cells) own zero cell fits below room e =
    writes_away setting table (suc first) cells own table (first + 0) fits below (λ s l m. absurd (omega (arith, l)))
    ∙ ap (λ (o : Option Cell). option_or o (item_at own table (first + 0))) (same_Some None cell e)
writes_at setting table first (Some new ∷ cells) own zero cell fits below room e =
    let write : Write = record { table = table; pos = first; cell = new } in
    let at : first + 0 ≡ first = omega arith in
    writes_away setting table (suc first) cells (with_write own write) table (first + 0) (write_fits setting own write fits below) below
    (λ s l m. absurd (omega (arith, l)))
    ∙ (ap (item_at (with_write own write) table) at
    ∙ (write_here setting own write fits below (omega (arith, room))
    ∙ ap (λ (o : Option Cell). option_or o (item_at own table (first + 0))) (same_Some (Some new) cell e)))
writes_at setting table first (None ∷ cells) own (suc i) cell fits below room e =
    let at : suc first + i ≡ first + suc i = omega arith in
    subst (λ (n : ℕ). item_at (with_writes own (writes_from table (suc first) cells)) table n ≡ option_or cell (item_at own table n)) at
    (writes_at setting table (suc first) cells own i cell fits below (omega (arith, room)) e)
writes_at setting table first (Some new ∷ cells) own (suc i) cell fits below room e =
    let write : Write = record { table = table; pos = first; cell = new } in
    let at : suc first + i ≡ first + suc i = omega arith in
    subst (λ (n : ℕ). item_at (with_writes (with_write own write) (writes_from table (suc first) cells)) table n ≡ option_or cell (item_at
    (with_write own write) table n)) at
    (writes_at setting table (suc first) cells (with_write own write) i cell (write_fits setting own write fits below) below (omega (arith, room)) e)
    ∙ ap (option_or cell) (write_away setting own write table (first + suc i) fits below (λ same. let at = same.1 in absurd (omega (arith, at))))
