-- What the printed changes leave at a position is what stands there in the tables, and so are the rows that they leave.
use Rattle.std.proofs.Common.{◌≡◌, ℕ, zero, suc, ◌+◌, ◌<◌, ◌≤◌, List, [], ◌∷◌, Option, None, Some, length, take, map, get_or, refl, ap, sym, ◌∙◌}
use Rattle.std.proofs.Common.{subst, arith, zero-add, add-zero}
use Rattle.std.specs.Prelude.{slice_get, IfSome, flat_map}
use Rattle.std.specs.List.{AllByRecursion, AllZip, range_with_len}
use Rattle.std.proofs.lemmas.List.{map-id}
use Rattle.std.proofs.lemmas.Option.{same_Some}
use Rattle.hy_value.specs.declared.Value.{Value}
use Rattle.hy_value.specs.Sorted.{sorted}
use Rattle.hy_bound.specs.declared.Shape.{Shape}
use Rattle.hy_bound.specs.Changes.{present}
use Rattle.hy_bound.specs.Fits.{FitsRows}
use Rattle.hy_value.specs.declared.change.Change.{Change}
use Rattle.hy_render.specs.declared.Committed.{Committed as Committing}
use Rattle.hy_machine.specs.declared.Setting.{Setting}
use Rattle.hy_machine.specs.Tables.{Entry, Pair, Cell, Tables, capacity, laid_out, opening_tables, history, after_entry}
use Rattle.hy_machine.specs.Positions.{item_at}
use Rattle.hy_machine.specs.Validation.{committed_of}
use Rattle.hy_replay.specs.Laws.{AreTables, bags_of}
use Rattle.hy_lawful.specs.Outcomes.{EachFrom}
use Rattle.hy_lawful.specs.Cells.{after_changes, cell_at as printed_at, rows_at, bags_at, IsChangeAt}
use Rattle.hy_lawful.proofs.PrintedChanges.{all_changes, after_append, after_pairs}
use Rattle.hy_lawful.proofs.PassTables.{tables_at, pair_at, AllFit, covered_are, covered_at, tables_are}
use Rattle.hy_lawful.proofs.PassStates.{Befores}

-- ---- the first rows

past_rows : (rows : List (List Value)) (pos : ℕ) → length rows ≤ pos → slice_get rows pos ≡ None
past_rows [] pos h = refl
past_rows (row ∷ rows) zero h = absurd (omega (arith, h))
past_rows (row ∷ rows) (suc pos) h = past_rows rows pos (omega (arith, h))

range_item : (f : ℕ → Cell) (first n pos : ℕ) → (n ≤ pos → f (first + pos) ≡ None) → get_or (map f (range_with_len first n)) pos None ≡ f (first + pos)
range_item f first zero pos h = sym (h (omega arith))
range_item f first (suc n) zero h = ap f (sym (add-zero first))
range_item f first (suc n) (suc pos) h =
    let same : first + 1 + pos ≡ first + suc pos = omega arith in
    range_item f (first + 1) n pos (λ low. ap f same ∙ h (omega (arith, low))) ∙ ap f same

laid_item : (n : ℕ) (rows : List (List Value)) (pos : ℕ) → length rows ≤ n → get_or (laid_out n rows) pos None ≡ slice_get rows pos
laid_item n rows pos few =
    range_item (slice_get rows) 0 n pos (λ low. past_rows rows (0 + pos) (omega (arith, few, low))) ∙ ap (slice_get rows) (zero-add pos)

first_item : (n : ℕ) (shapes : List Shape) (first : List (List (List Value))) → AllZip (FitsRows n) shapes first → (table pos : ℕ)
    → item_at (map (laid_out n) first) table pos ≡ slice_get (get_or first table []) pos
first_item n [] [] fit table pos = refl
first_item n [] (rows ∷ first) fit table pos = absurd fit
first_item n (shape ∷ shapes) [] fit table pos = absurd fit
first_item n (shape ∷ shapes) (rows ∷ first) fit zero pos = laid_item n rows pos fit.0.few
first_item n (shape ∷ shapes) (rows ∷ first) fit (suc table) pos = first_item n shapes first fit.1 table pos

-- ---- cells

pub if_some : {X : Type 0} (P : X → Type 0) (item : Option X) → ((x : X) → item ≡ Some x → P x) → IfSome item P
if_some P None h = tt
if_some P (Some x) h = h x refl

printed_from : (setting : Setting) (tables : Tables) (order : List Entry) (rank table pos : ℕ) → AreTables setting tables → AllFit setting order
    → ((at : ℕ) (pair : Pair) → pair_at order at table pos ≡ Some pair → pair.before ≡ item_at (history tables (take at order)) table pos)
    → after_changes table pos (item_at tables table pos) (flat_map (λ (entry : Committing). entry.changes) (take rank (map committed_of order)))
    ≡ item_at (history tables (take rank order)) table pos
printed_from setting tables [] zero table pos are fit h = refl
printed_from setting tables [] (suc rank) table pos are fit h = refl
printed_from setting tables (entry ∷ order) zero table pos are fit h = refl
printed_from setting tables (entry ∷ order) (suc rank) table pos are fit h =
    let rest : List Change = flat_map (λ (entry : Committing). entry.changes) (take rank (map committed_of order)) in
    let next : Tables = after_entry tables entry in
    after_append table pos (item_at tables table pos) (committed_of entry).changes rest
    ∙ (ap (λ (cell : Cell). after_changes table pos cell rest)
    (after_pairs table pos (item_at tables table pos) entry.cells
    (if_some (λ (pair : Pair). pair.before ≡ item_at tables table pos) (item_at entry.cells table pos) (λ pair e. h 0 pair e))
    ∙ sym (covered_at setting (λ (pair : Pair). pair.after) tables entry.cells are fit.0 table pos))
    ∙ printed_from setting next order rank table pos (covered_are setting (λ (pair : Pair). pair.after) tables entry.cells are) fit.1
    (λ at pair e. h (suc at) pair e))

-- what is known of a commit order
pub record IsOrder (setting : Setting) (order : List Entry) : Type 0 where
  pub rows : AllZip (FitsRows (capacity setting)) setting.shapes setting.first
  pub fit : AllFit setting order
  pub befores : Befores setting order

pub printed_is : (setting : Setting) (order : List Entry) → IsOrder setting order → (rank table pos : ℕ)
    → printed_at setting (map committed_of order) rank table pos ≡ item_at (tables_at setting order rank) table pos
printed_is setting order is rank table pos =
    ap (λ (cell : Cell). after_changes table pos cell (flat_map (λ (entry : Committing). entry.changes) (take rank (map committed_of order))))
    (sym (first_item (capacity setting) setting.shapes setting.first is.rows table pos))
    ∙ printed_from setting (opening_tables setting) order rank table pos (tables_are setting order 0) is.fit
    (λ at pair e. is.befores at table pos pair e)

-- ---- changes

each_committed : (P : ℕ → Committing → Type 0) (first : ℕ) (order : List Entry)
    → ((i : ℕ) (entry : Entry) → slice_get order i ≡ Some entry → P (first + i) (committed_of entry)) → EachFrom first P (map committed_of order)
each_committed P first [] f = tt
each_committed P first (entry ∷ order) f = (
  subst (λ (n : ℕ). P n (committed_of entry)) (add-zero first) (f 0 entry refl),
  each_committed P (suc first) order (λ i one e.
      subst (λ (n : ℕ). P n (committed_of one)) (let same : first + suc i ≡ suc first + i = omega arith in same) (f (suc i) one e)),
)

pub pair_there : (order : List Entry) (rank : ℕ) (entry : Entry) → slice_get order rank ≡ Some entry → (table pos : ℕ)
    → pair_at order rank table pos ≡ item_at entry.cells table pos
pair_there [] rank entry e table pos = absurd cc
pair_there (one ∷ order) zero entry e table pos = ap (λ (entry : Entry). item_at entry.cells table pos) (same_Some one entry e)
pair_there (one ∷ order) (suc rank) entry e table pos = pair_there order rank entry e table pos

-- every change starts from what stands at its position
pub changes_at : (setting : Setting) (order : List Entry) → IsOrder setting order
    → EachFrom 0 (λ (rank : ℕ) (entry : Committing). AllByRecursion (IsChangeAt setting (map committed_of order) rank) entry.changes) (map committed_of order)
changes_at setting order is = each_committed
    (λ (rank : ℕ) (entry : Committing). AllByRecursion (IsChangeAt setting (map committed_of order) rank) entry.changes) 0 order
    (λ rank entry at. all_changes (IsChangeAt setting (map committed_of order) (0 + rank)) entry.cells (λ table pos pair e some. record {
      before = is.befores rank table pos pair (pair_there order rank entry at table pos ∙ e)
          ∙ (sym (printed_is setting order is rank table pos)
          ∙ ap (λ (n : ℕ). printed_at setting (map committed_of order) n table pos) (sym (zero-add rank)));
      changes = some;
    }))

-- ---- rows

listed : {X Y : Type 0} (f : X → Y) (at : ℕ → Y) (d : X) (first : ℕ) (xs : List X) → ((i : ℕ) → i < length xs → at (first + i) ≡ f (get_or xs i d))
    → map at (range_with_len first (length xs)) ≡ map f xs
listed {Y = Y} f at d first [] h = refl
listed {Y = Y} f at d first (x ∷ xs) h =
    ap (λ (y : Y). y ∷ map at (range_with_len (first + 1) (length xs))) (ap at (sym (add-zero first)) ∙ h 0 (omega arith))
    ∙ ap (λ (ys : List Y). f x ∷ ys) (listed f at d (first + 1) xs
    (λ i below. ap at (let same : first + 1 + i ≡ first + suc i = omega arith in same) ∙ h (suc i) (omega (arith, below))))

long_at : (n : ℕ) (tables : Tables) → AllByRecursion (λ (cells : List Cell). length cells ≡ n) tables → (i : ℕ) → i < length tables
    → length (get_or tables i []) ≡ n
long_at n [] h i below = absurd (omega (arith, below))
long_at n (cells ∷ tables) h zero below = h.0
long_at n (cells ∷ tables) h (suc i) below = long_at n tables h.1 i (omega (arith, below))

cells_listed : (at : ℕ → Cell) (n : ℕ) (cells : List Cell) → length cells ≡ n → ((pos : ℕ) → at pos ≡ get_or cells pos None)
    → map at (range_with_len 0 n) ≡ cells
cells_listed at n cells long h =
    ap (λ (n : ℕ). map at (range_with_len 0 n)) (sym long)
    ∙ (listed (λ (cell : Cell). cell) at None 0 cells (λ i below. ap at (zero-add i) ∙ h i) ∙ map-id cells)

-- the rows that the printed changes leave are those of the tables
pub bags_are : (setting : Setting) (order : List Entry) → IsOrder setting order → (rank : ℕ)
    → bags_at setting (map committed_of order) rank ≡ bags_of (tables_at setting order rank)
bags_are setting order is rank =
    let tables : Tables = tables_at setting order rank in
    let are : AreTables setting tables = tables_are setting order rank in
    let rows : ℕ → List (List Value) = rows_at setting (map committed_of order) rank in
    ap (λ (n : ℕ). map rows (range_with_len 0 n)) (sym are.many)
    ∙ listed (λ (cells : List Cell). sorted (present cells)) rows [] 0 tables (λ i below.
    ap rows (zero-add i)
    ∙ ap (λ (cells : List Cell). sorted (present cells))
    (cells_listed (printed_at setting (map committed_of order) rank i) (capacity setting) (get_or tables i [])
    (long_at (capacity setting) tables are.long i below)
    (printed_is setting order is rank i)))
