-- The rows of tables of positions: table by table, sorted, and with one more where there was none.
use Rattle.std.proofs.Common.{◌≡◌, ℕ, zero, suc, ◌+◌, ◌<◌, ◌≤◌, List, [], ◌∷◌, Option, None, Some, Bool, true, false, length}
use Rattle.std.proofs.Common.{map, get_or, filter, refl, ap, sym, ◌∙◌, subst, arith}
use Rattle.std.proofs.Math.ListN.{set}
use Rattle.std.specs.Prelude.{◌||◌, cond}
use Rattle.std.specs.Ordering.{is_lt}
use Rattle.std.specs.List.{AllByRecursion, list_any, range_with_len}
use Rattle.std.specs.List.Sorted.{IsPermutation}
use Rattle.std.proofs.lemmas.List.Sorted.{IsPermutation-refl, IsPermutation-sym, IsPermutation-trans, IsPermutation-cons, IsPermutation-middle}
use Rattle.hy_value.specs.declared.Value.{Value}
use Rattle.hy_value.specs.Order.{row_cmp}
use Rattle.hy_value.specs.Sorted.{sorted}
use Rattle.hy_value.specs.Sorting.{IsLeast, Ascends, ascends_sorted, ascending_one, sorted_permutes, sorted_from_permutation, tally-permutation}
use Rattle.hy_bound.specs.Changes.{present}
use Rattle.hy_meaning.specs.Statement.{Table, Database, rows_in, has_key_of}
use Rattle.hy_laws.specs.Bags.{SameBags}
use Rattle.hy_machine.specs.Tables.{Cell, Tables}
use Rattle.hy_machine.specs.Visits.{has_key_in}
use Rattle.hy_replay.specs.Laws.{bags_of}

-- the rows of tables, in the order of their positions
abbrev pub rows_of : Tables → Database
rows_of tables = map (λ (cells : List Cell). present cells) tables

-- each table of a database is sorted
abbrev pub IsKept : Database → Type 0
IsKept db = AllByRecursion (λ (rows : Table). sorted rows ≡ rows) db

pub rows_at : (tables : Tables) (table : ℕ) → rows_in (rows_of tables) table ≡ present (get_or tables table [])
rows_at [] table = refl
rows_at (cells ∷ tables) zero = refl
rows_at (cells ∷ tables) (suc table) = rows_at tables table

-- ---- sorted tables

pub same_rows : (tables : Tables) → SameBags (bags_of tables) (rows_of tables)
same_rows [] table = IsPermutation-refl _
same_rows (cells ∷ tables) zero = IsPermutation-sym _ _ (sorted_permutes (present cells))
same_rows (cells ∷ tables) (suc table) = same_rows tables table

pub bags_kept : (tables : Tables) → IsKept (bags_of tables)
bags_kept [] = tt
bags_kept (cells ∷ tables) = (sym (sorted_from_permutation _ _ (sorted_permutes (present cells))), bags_kept tables)

-- a database whose tables are sorted is the bags of tables that have its rows
pub kept_is_bags : (db : Database) (tables : Tables) → IsKept db → SameBags db (rows_of tables) → length db ≡ length tables → db ≡ bags_of tables
kept_is_bags [] [] k same e = refl
kept_is_bags [] (cells ∷ tables) k same e = absurd (omega arith)
kept_is_bags (rows ∷ db) [] k same e = absurd (omega arith)
kept_is_bags (rows ∷ db) (cells ∷ tables) k same e =
    let first : rows ≡ sorted (present cells) = sym k.0 ∙ sorted_from_permutation rows (present cells) (same 0) in
    ap (λ (more : Table). more ∷ db) first
    ∙ ap (λ (more : Database). sorted (present cells) ∷ more) (kept_is_bags db tables k.1 (λ table. same (suc table)) (omega arith))

kept_least_if : (b : Bool) (x row : List Value) (rows : Table) → is_lt (row_cmp row x) ≡ false → IsLeast x rows → IsLeast x (cond b (row ∷ rows) rows)
kept_least_if true x row rows p l = (p, l)
kept_least_if false x row rows p l = l

least_filter : (p : List Value → Bool) (x : List Value) (rows : Table) → IsLeast x rows → IsLeast x (filter p rows)
least_filter p x [] l = tt
least_filter p x (row ∷ rows) l = kept_least_if (p row) x row (filter p rows) l.0 (least_filter p x rows l.1)

ascends_if : (b : Bool) (row : List Value) (rows : Table) → IsLeast row rows → Ascends rows → Ascends (cond b (row ∷ rows) rows)
ascends_if true row rows l h = (l, h)
ascends_if false row rows l h = h

ascends_filter : (p : List Value → Bool) (rows : Table) → Ascends rows → Ascends (filter p rows)
ascends_filter p [] h = tt
ascends_filter p (row ∷ rows) h = ascends_if (p row) row (filter p rows) (least_filter p row rows h.0) (ascends_filter p rows h.1)

-- of sorted rows those that pass a test are sorted
pub filter_kept : (p : List Value → Bool) (rows : Table) → sorted rows ≡ rows → sorted (filter p rows) ≡ filter p rows
filter_kept p rows e =
    ascending_one (sorted (filter p rows)) (filter p rows) (ascends_sorted (filter p rows)) (ascends_filter p rows (subst Ascends e (ascends_sorted rows)))
    (λ row. tally-permutation row _ _ (sorted_permutes (filter p rows)))

-- rows put in the place of a table
pub set_kept : (db : Database) (table : ℕ) (rows : Table) → IsKept db → sorted rows ≡ rows → IsKept (set db table rows)
set_kept [] table rows k e = tt
set_kept (first ∷ db) zero rows k e = (e, k.1)
set_kept (first ∷ db) (suc table) rows k e = (k.0, set_kept db table rows k.1 e)

pub kept_at : (db : Database) (table : ℕ) → IsKept db → sorted (rows_in db table) ≡ rows_in db table
kept_at [] table k = refl
kept_at (first ∷ db) zero k = k.0
kept_at (first ∷ db) (suc table) k = kept_at db table k.1

-- the same bag of rows, put in the place of a table if it is there
pub set_bags : (db : Database) (table : ℕ) (rows others : Table) → (table < length db → IsPermutation rows others)
    → SameBags (set db table rows) (set db table others)
set_bags [] table rows others h n = IsPermutation-refl _
set_bags (first ∷ db) zero rows others h zero = h (omega arith)
set_bags (first ∷ db) zero rows others h (suc n) = IsPermutation-refl _
set_bags (first ∷ db) (suc table) rows others h zero = IsPermutation-refl _
set_bags (first ∷ db) (suc table) rows others h (suc n) = set_bags db table rows others (λ below. h (omega (arith, below))) n

-- ---- a row where there was none

pub present_set : (cells : List Cell) (pos : ℕ) (row : List Value) → pos < length cells → get_or cells pos None ≡ None
    → IsPermutation (row ∷ present cells) (present (set cells pos (Some row)))
present_set [] pos row below e = absurd (omega arith)
present_set (None ∷ cells) zero row below e = IsPermutation-refl _
present_set (Some first ∷ cells) zero row below e = absurd cc
present_set (None ∷ cells) (suc pos) row below e = present_set cells pos row (omega arith) e
present_set (Some first ∷ cells) (suc pos) row below e =
    IsPermutation-trans _ (first ∷ row ∷ present cells) _ (IsPermutation-sym _ _ (IsPermutation-middle (first ∷ []) row (present cells)))
    (IsPermutation-cons first _ _ (present_set cells pos row (omega arith) e))

-- ---- a row with a key

abbrev Shows : (ℕ → Cell) → ℕ → List Cell → Type 0
Shows at start cells = (i : ℕ) → at (start + i) ≡ get_or cells i None

shows_first : (at : ℕ → Cell) (start : ℕ) (cells : List Cell) → Shows at start cells → at start ≡ get_or cells 0 None
shows_first at start cells h = subst (λ (n : ℕ). at n ≡ get_or cells 0 None) (let e : start + 0 ≡ start = omega arith in e) (h 0)

shows_rest : (at : ℕ → Cell) (start : ℕ) (cell : Cell) (cells : List Cell) → Shows at start (cell ∷ cells) → Shows at (start + 1) cells
shows_rest at start cell cells h i = subst (λ (n : ℕ). at n ≡ get_or cells i None) (let e : start + suc i ≡ start + 1 + i = omega arith in e) (h (suc i))

shows_past : (at : ℕ → Cell) (start : ℕ) → Shows at start [] → Shows at (start + 1) []
shows_past at start h i = subst (λ (n : ℕ). at n ≡ None) (let e : start + suc i ≡ start + 1 + i = omega arith in e) (h (suc i))

-- some position has the key of a row where some row has it that is there
pub key_found : (row : List Value) (key : Option ℕ) (at : ℕ → Cell) (start many : ℕ) (cells : List Cell) → Shows at start cells → length cells ≤ many
    → list_any (λ pos. has_key_in row key (at pos)) (range_with_len start many) ≡ list_any (has_key_of row key) (present cells)
key_found row key at start zero [] h few = refl
key_found row key at start zero (cell ∷ cells) h few = absurd (omega arith)
key_found row key at start (suc many) [] h few =
    ap (λ (cell : Cell). has_key_in row key cell || list_any (λ pos. has_key_in row key (at pos)) (range_with_len (start + 1) many)) (shows_first at start [] h)
    ∙ key_found row key at (start + 1) many [] (shows_past at start h) (omega arith)
key_found row key at start (suc many) (None ∷ cells) h few =
    ap (λ (cell : Cell). has_key_in row key cell || list_any (λ pos. has_key_in row key (at pos)) (range_with_len (start + 1) many))
    (shows_first at start (None ∷ cells) h)
    ∙ key_found row key at (start + 1) many cells (shows_rest at start None cells h) (omega arith)
key_found row key at start (suc many) (Some one ∷ cells) h few =
    ap (λ (cell : Cell). has_key_in row key cell || list_any (λ pos. has_key_in row key (at pos)) (range_with_len (start + 1) many))
    (shows_first at start (Some one ∷ cells) h)
    ∙ ap (λ b. has_key_of row key one || b) (key_found row key at (start + 1) many cells (shows_rest at start (Some one) cells h) (omega arith))
