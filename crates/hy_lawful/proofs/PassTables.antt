-- What stands at a position of the tables after the first entries of a commit order, and what an entry does there.
use Rattle.std.proofs.Common.{◌≡◌, ℕ, zero, suc, ◌+◌, ◌<◌, ◌≤◌, List, [], ◌∷◌, ◌++◌, Option, None, Some, length, take, map, get_or, refl, ap, sym, ◌∙◌}
use Rattle.std.proofs.Common.{arith, inl, inr, ◌⊎◌, zero-add, add-zero}
use Rattle.std.specs.Prelude.{slice_get}
use Rattle.std.specs.List.{AllByRecursion, range_with_len}
use Rattle.std.proofs.lemmas.List.{length-append, length-map, take-append-le, take_all, take_at}
use Rattle.hy_value.specs.declared.Value.{Value}
use Rattle.hy_machine.specs.declared.Setting.{Setting}
use Rattle.hy_machine.specs.Tables.{Entry, Pair}
use Rattle.hy_machine.specs.Positions.{item_at}
use Rattle.hy_machine.specs.Tables.{Cell, Tables, Own, capacity, overlaid, covered, covered_tables, over, after_entry, history, laid_out, opening_tables}
use Rattle.hy_machine.specs.Sessions.{pair_of, pairs_from, entry_cells}
use Rattle.hy_replay.specs.Laws.{AreTables}
use Rattle.hy_lawful.proofs.Fits.{FitsTables}

-- the tables after the first entries of an order
abbrev pub tables_at : Setting → List Entry → ℕ → Tables
tables_at setting order rank = history (opening_tables setting) (take rank order)

-- a cell of them
abbrev pub cell_at : Setting → List Entry → ℕ → ℕ → ℕ → Cell
cell_at setting order rank table pos = item_at (tables_at setting order rank) table pos

-- what the entry of a rank does at a position
abbrev pub pair_at : List Entry → ℕ → ℕ → ℕ → Option Pair
pair_at [] rank table pos = None
pair_at (entry ∷ order) zero table pos = item_at entry.cells table pos
pair_at (entry ∷ order) (suc rank) table pos = pair_at order rank table pos

-- the entries of an order fit the tables
abbrev pub AllFit : Setting → List Entry → Type 0
AllFit setting order = AllByRecursion (λ (entry : Entry). FitsTables setting entry.cells) order

-- ---- lists laid over lists

overlaid_length : {A B : Type 0} (f : A → B → A) (xs : List A) (ys : List B) → length (overlaid f xs ys) ≡ length xs
overlaid_length f [] ys = refl
overlaid_length f (x ∷ xs) [] = refl
overlaid_length f (x ∷ xs) (y ∷ ys) = ap suc (overlaid_length f xs ys)

cells_at : {B : Type 0} (f : B → Cell) (cells : List Cell) (items : List (Option B)) → length items ≤ length cells → (pos : ℕ)
    → get_or (overlaid (covered f) cells items) pos None ≡ covered f (get_or cells pos None) (get_or items pos None)
cells_at f [] [] h pos = refl
cells_at f [] (item ∷ items) h pos = absurd (omega (arith, h))
cells_at f (cell ∷ cells) [] h pos = refl
cells_at f (cell ∷ cells) (item ∷ items) h zero = refl
cells_at f (cell ∷ cells) (item ∷ items) h (suc pos) = cells_at f cells items (omega (arith, h)) pos

tables_over : {B : Type 0} (f : B → Cell) (most : ℕ) (tables : Tables) (lists : List (List (Option B))) → length lists ≤ length tables
    → AllByRecursion (λ (cells : List Cell). length cells ≡ most) tables → AllByRecursion (λ (items : List (Option B)). length items ≤ most) lists
    → (table pos : ℕ) → item_at (covered_tables f tables lists) table pos ≡ covered f (item_at tables table pos) (item_at lists table pos)
tables_over f most [] [] l h k table pos = refl
tables_over f most [] (items ∷ lists) l h k table pos = absurd (omega (arith, l))
tables_over f most (cells ∷ tables) [] l h k table pos = refl
tables_over f most (cells ∷ tables) (items ∷ lists) l h k zero pos = cells_at f cells items (omega (arith, h.0, k.0)) pos
tables_over f most (cells ∷ tables) (items ∷ lists) l h k (suc table) pos = tables_over f most tables lists (omega (arith, l)) h.1 k.1 table pos

covered_long : {B : Type 0} (f : B → Cell) (most : ℕ) (tables : Tables) (lists : List (List (Option B)))
    → AllByRecursion (λ (cells : List Cell). length cells ≡ most) tables
    → AllByRecursion (λ (cells : List Cell). length cells ≡ most) (covered_tables f tables lists)
covered_long f most [] lists h = tt
covered_long f most (cells ∷ tables) [] h = h
covered_long f most (cells ∷ tables) (items ∷ lists) h = (overlaid_length (covered f) cells items ∙ h.0, covered_long f most tables lists h.1)

pub covered_are : {B : Type 0} (setting : Setting) (f : B → Cell) (tables : Tables) (lists : List (List (Option B))) → AreTables setting tables
    → AreTables setting (covered_tables f tables lists)
covered_are setting f tables lists are = record {
  many = overlaid_length (overlaid (covered f)) tables lists ∙ are.many;
  long = covered_long f (capacity setting) tables lists are.long;
}

-- the cell at a position of tables with others over some of theirs
pub covered_at : {B : Type 0} (setting : Setting) (f : B → Cell) (tables : Tables) (lists : List (List (Option B))) → AreTables setting tables
    → FitsTables setting lists → (table pos : ℕ)
    → item_at (covered_tables f tables lists) table pos ≡ covered f (item_at tables table pos) (item_at lists table pos)
covered_at setting f tables lists are fits table pos =
    tables_over f (capacity setting) tables lists (omega (arith, fits.tables, are.many)) are.long fits.positions table pos

-- ---- the tables after some entries

range_length : (first n : ℕ) → length (range_with_len first n) ≡ n
range_length first zero = refl
range_length first (suc n) = ap suc (range_length (first + 1) n)

laid_all : (n : ℕ) (rows : List (List (List Value))) → AllByRecursion (λ (cells : List Cell). length cells ≡ n) (map (laid_out n) rows)
laid_all n [] = tt
laid_all n (one ∷ rows) = (length-map (range_with_len 0 n) (slice_get one) ∙ range_length 0 n, laid_all n rows)

opening_are : (setting : Setting) → AreTables setting (opening_tables setting)
opening_are setting = record {
  many = length-map setting.first (laid_out (capacity setting));
  long = laid_all (capacity setting) setting.first;
}

history_are : (setting : Setting) (tables : Tables) (entries : List Entry) → AreTables setting tables → AreTables setting (history tables entries)
history_are setting tables [] are = are
history_are setting tables (entry ∷ entries) are =
    history_are setting (after_entry tables entry) entries (covered_are setting (λ (pair : Pair). pair.after) tables entry.cells are)

pub tables_are : (setting : Setting) (order : List Entry) (rank : ℕ) → AreTables setting (tables_at setting order rank)
tables_are setting order rank = history_are setting (opening_tables setting) (take rank order) (opening_are setting)

next_in : (setting : Setting) (tables : Tables) (order : List Entry) (rank table pos : ℕ) → AreTables setting tables → AllFit setting order
    → item_at (history tables (take (suc rank) order)) table pos
    ≡ covered (λ (pair : Pair). pair.after) (item_at (history tables (take rank order)) table pos) (pair_at order rank table pos)
next_in setting tables [] zero table pos are fit = refl
next_in setting tables [] (suc rank) table pos are fit = refl
next_in setting tables (entry ∷ order) zero table pos are fit =
    covered_at setting (λ (pair : Pair). pair.after) tables entry.cells are fit.0 table pos
next_in setting tables (entry ∷ order) (suc rank) table pos are fit =
    next_in setting (after_entry tables entry) order rank table pos (covered_are setting (λ (pair : Pair). pair.after) tables entry.cells are) fit.1

-- the entry of a rank leaves a cell as it is, or puts another one in its place
pub cell_next : (setting : Setting) (order : List Entry) → AllFit setting order → (rank table pos : ℕ) (pair : Option Pair)
    → pair_at order rank table pos ≡ pair
    → cell_at setting order (suc rank) table pos ≡ covered (λ (pair : Pair). pair.after) (cell_at setting order rank table pos) pair
cell_next setting order fit rank table pos pair e =
    next_in setting (opening_tables setting) order rank table pos (opening_are setting) fit
    ∙ ap (covered (λ (pair : Pair). pair.after) (cell_at setting order rank table pos)) e

-- a cell stays from one rank to another where no entry between them does anything
pub stays_to : (setting : Setting) (order : List Entry) → AllFit setting order → (prefix table pos more : ℕ)
    → ((rank : ℕ) → prefix ≤ rank → rank < prefix + more → pair_at order rank table pos ≡ None)
    → cell_at setting order (prefix + more) table pos ≡ cell_at setting order prefix table pos
stays_to setting order fit prefix table pos zero none = ap (λ (n : ℕ). cell_at setting order n table pos) (add-zero prefix)
stays_to setting order fit prefix table pos (suc more) none =
    ap (λ (n : ℕ). cell_at setting order n table pos) (let e : prefix + suc more ≡ suc (prefix + more) = omega arith in e)
    ∙ (cell_next setting order fit (prefix + more) table pos None (none (prefix + more) (omega arith) (omega arith))
    ∙ stays_to setting order fit prefix table pos more (λ rank from below. none rank from (omega (arith, below))))

-- a cell stays where no entry from a rank on does anything
pub cell_stays : (setting : Setting) (order : List Entry) → AllFit setting order → (prefix table pos : ℕ)
    → ((rank : ℕ) → prefix ≤ rank → pair_at order rank table pos ≡ None) → (more : ℕ)
    → cell_at setting order (prefix + more) table pos ≡ cell_at setting order prefix table pos
cell_stays setting order fit prefix table pos none more = stays_to setting order fit prefix table pos more (λ rank from below. none rank from)

-- ---- an entry more

pub tables_grow : (setting : Setting) (order more : List Entry) (rank : ℕ) → rank ≤ length order
    → tables_at setting (order ++ more) rank ≡ tables_at setting order rank
tables_grow setting order more rank h = ap (history (opening_tables setting)) (take-append-le rank order more h)

pub more_pairs : (order : List Entry) (entry : Entry) (rank table pos : ℕ) (pair : Pair) → pair_at (order ++ entry ∷ []) rank table pos ≡ Some pair
    → ((rank < length order) × (pair_at order rank table pos ≡ Some pair)) ⊎ ((rank ≡ length order) × (item_at entry.cells table pos ≡ Some pair))
more_pairs [] entry zero table pos pair e = inr (refl, e)
more_pairs [] entry (suc rank) table pos pair e = absurd cc
more_pairs (first ∷ order) entry zero table pos pair e = inl (omega arith, e)
more_pairs (first ∷ order) entry (suc rank) table pos pair e = elim (more_pairs order entry rank table pos pair e) [
  | inl h ↦ inl (omega (arith, h.0), h.1)
  | inr h ↦ inr (ap suc h.0, h.1)
]

pairs_item : (before : ℕ → Cell) (at : ℕ) (cells : List (Option Cell)) (pos : ℕ)
    → get_or (pairs_from before at cells) pos None ≡ pair_of (before (at + pos)) (get_or cells pos None)
pairs_item before at [] pos = refl
pairs_item before at (cell ∷ cells) zero = ap (λ (n : ℕ). pair_of (before n) cell) (sym (add-zero at))
pairs_item before at (cell ∷ cells) (suc pos) = pairs_item before (suc at) cells pos
    ∙ ap (λ (n : ℕ). pair_of (before n) (get_or cells pos None)) (let e : suc at + pos ≡ at + suc pos = omega arith in e)

cells_item : (tables : Tables) (first : ℕ) (own : Own) (table pos : ℕ)
    → item_at (entry_cells tables first own) table pos ≡ pair_of (item_at tables (first + table) pos) (item_at own table pos)
cells_item tables first [] table pos = refl
cells_item tables first (cells ∷ own) zero pos = pairs_item (item_at tables first) 0 cells pos
    ∙ ap (λ (cell : Cell). pair_of cell (get_or cells pos None))
    (ap (item_at tables first) (zero-add pos) ∙ ap (λ (n : ℕ). item_at tables n pos) (sym (add-zero first)))
cells_item tables first (cells ∷ own) (suc table) pos = cells_item tables (suc first) own table pos
    ∙ ap (λ (n : ℕ). pair_of (item_at tables n pos) (item_at own table pos)) (let e : suc first + table ≡ first + suc table = omega arith in e)

-- what a transaction's entry does at a position
pub entry_item : (tables : Tables) (own : Own) (table pos : ℕ)
    → item_at (entry_cells tables 0 own) table pos ≡ pair_of (item_at tables table pos) (item_at own table pos)
entry_item tables own table pos = cells_item tables 0 own table pos
    ∙ ap (λ (n : ℕ). pair_of (item_at tables n pos) (item_at own table pos)) (zero-add table)

cells_lie : (before : ℕ → Cell) (pos : ℕ) (cells : List Cell) (owns : List (Option Cell))
    → overlaid (covered (λ (pair : Pair). pair.after)) cells (pairs_from before pos owns) ≡ overlaid (covered (λ (own : Cell). own)) cells owns
cells_lie before pos [] owns = refl
cells_lie before pos (cell ∷ cells) [] = refl
cells_lie before pos (cell ∷ cells) (None ∷ owns) = ap (λ (rest : List Cell). cell ∷ rest) (cells_lie before (suc pos) cells owns)
cells_lie before pos (cell ∷ cells) (Some own ∷ owns) = ap (λ (rest : List Cell). own ∷ rest) (cells_lie before (suc pos) cells owns)

tables_lie : (tables : Tables) (table : ℕ) (under : Tables) (own : Own)
    → covered_tables (λ (pair : Pair). pair.after) under (entry_cells tables table own) ≡ over under own
tables_lie tables table [] own = refl
tables_lie tables table (cells ∷ under) [] = refl
tables_lie tables table (cells ∷ under) (owns ∷ own) =
    ap (λ (one : List Cell). one ∷ covered_tables (λ (pair : Pair). pair.after) under (entry_cells tables (suc table) own))
    (cells_lie (item_at tables table) 0 cells owns)
    ∙ ap (λ (rest : Tables). overlaid (covered (λ (own : Cell). own)) cells owns ∷ rest) (tables_lie tables (suc table) under own)

history_more : (tables : Tables) (entries : List Entry) (entry : Entry)
    → history tables (entries ++ entry ∷ []) ≡ after_entry (history tables entries) entry
history_more tables [] entry = refl
history_more tables (first ∷ entries) entry = history_more (after_entry tables first) entries entry

-- the last entry lays what its transaction wrote over the tables before it
pub entry_lays : (setting : Setting) (order : List Entry) (entry : Entry) (tables : Tables) (own : Own) → entry.cells ≡ entry_cells tables 0 own
    → tables_at setting (order ++ entry ∷ []) (suc (length order)) ≡ over (tables_at setting (order ++ entry ∷ []) (length order)) own
entry_lays setting order entry tables own e =
    ap (history (opening_tables setting)) (take_all (suc (length order)) (order ++ entry ∷ []) (omega (arith, length-append order (entry ∷ []))))
    ∙ (history_more (opening_tables setting) order entry
    ∙ (ap (covered_tables (λ (pair : Pair). pair.after) (history (opening_tables setting) order)) e
    ∙ (tables_lie tables 0 (history (opening_tables setting) order) own
    ∙ ap (λ (entries : List Entry). over (history (opening_tables setting) entries) own) (sym (take_at order (entry ∷ []) (length order) refl)))))
