-- Tables of cells and other ones as changes of their positions.
use Rattle.std.proofs.Common.{◌≡◌, ℕ, zero, suc, ◌≤◌, List, [], ◌∷◌, None, Some, true, get_or, map, refl, ap, sym, ◌∙◌, subst}
use Rattle.hy_value.specs.declared.Value.{Value}
use Rattle.hy_bound.specs.declared.Record.{Record}
use Rattle.hy_bound.specs.declared.Shape.{Shape}
use Rattle.hy_bound.specs.Agreement.{HasItsKey, HaveWidth}
use Rattle.hy_bound.specs.Changes.{Change, present, rows_before, rows_after, are_missed, changes_at, Miss, FitChanges}
use Rattle.hy_bound.specs.Records.{shape_of}
use Rattle.hy_meaning.specs.Statement.{Table, rows_in}
use Rattle.hy_machine.specs.Positions.{item_at}
use Rattle.hy_machine.specs.Tables.{Cell, Tables}
use Rattle.hy_machine.specs.Turns.{rows_seen}
use Rattle.hy_machine.specs.Validation.{record_hit}
use Rattle.hy_replay.specs.Laws.{HaveWidths}
use Rattle.hy_replay.proofs.Hits.{none_hit}

-- ---- changes

-- the cells of two tables, position by position
abbrev pub paired_cells : List Cell → List Cell → List Change
paired_cells [] [] = []
paired_cells [] (other ∷ others) = (None, other) ∷ paired_cells [] others
paired_cells (cell ∷ cells) [] = (cell, None) ∷ paired_cells cells []
paired_cells (cell ∷ cells) (other ∷ others) = (cell, other) ∷ paired_cells cells others

-- those of all tables
abbrev pub paired : Tables → Tables → List (List Change)
paired [] [] = []
paired [] (other ∷ others) = paired_cells [] other ∷ paired [] others
paired (cells ∷ tables) [] = paired_cells cells [] ∷ paired tables []
paired (cells ∷ tables) (other ∷ others) = paired_cells cells other ∷ paired tables others

before_paired : (cells others : List Cell) → rows_before (paired_cells cells others) ≡ present cells
before_paired [] [] = refl
before_paired [] (other ∷ others) = before_paired [] others
before_paired (None ∷ cells) [] = before_paired cells []
before_paired (Some row ∷ cells) [] = ap (λ (rows : List (List Value)). row ∷ rows) (before_paired cells [])
before_paired (None ∷ cells) (other ∷ others) = before_paired cells others
before_paired (Some row ∷ cells) (other ∷ others) = ap (λ (rows : List (List Value)). row ∷ rows) (before_paired cells others)

after_paired : (cells others : List Cell) → rows_after (paired_cells cells others) ≡ present others
after_paired [] [] = refl
after_paired [] (None ∷ others) = after_paired [] others
after_paired [] (Some row ∷ others) = ap (λ (rows : List (List Value)). row ∷ rows) (after_paired [] others)
after_paired (cell ∷ cells) [] = after_paired cells []
after_paired (cell ∷ cells) (None ∷ others) = after_paired cells others
after_paired (cell ∷ cells) (Some row ∷ others) = ap (λ (rows : List (List Value)). row ∷ rows) (after_paired cells others)

paired_at : (tables others : Tables) (table : ℕ) → changes_at (paired tables others) table ≡ paired_cells (get_or tables table []) (get_or others table [])
paired_at [] [] table = refl
paired_at [] (other ∷ others) zero = refl
paired_at [] (other ∷ others) (suc table) = paired_at [] others table
paired_at (cells ∷ tables) [] zero = refl
paired_at (cells ∷ tables) [] (suc table) = paired_at tables [] table
paired_at (cells ∷ tables) (other ∷ others) zero = refl
paired_at (cells ∷ tables) (other ∷ others) (suc table) = paired_at tables others table

rows_at : (rows : List Change → Table) → rows [] ≡ [] → (changes : List (List Change)) (table : ℕ)
    → rows_in (map rows changes) table ≡ rows (changes_at changes table)
rows_at rows blank [] table = sym blank
rows_at rows blank (change ∷ changes) zero = refl
rows_at rows blank (change ∷ changes) (suc table) = rows_at rows blank changes table

before_at : (tables others : Tables) (table : ℕ) → rows_before (changes_at (paired tables others) table) ≡ rows_seen tables table
before_at tables others table = ap rows_before (paired_at tables others table) ∙ before_paired (get_or tables table []) (get_or others table [])

after_at : (tables others : Tables) (table : ℕ) → rows_after (changes_at (paired tables others) table) ≡ rows_seen others table
after_at tables others table = ap rows_after (paired_at tables others table) ∙ after_paired (get_or tables table []) (get_or others table [])

pub before_in : (tables others : Tables) (table : ℕ) → rows_in (map rows_before (paired tables others)) table ≡ rows_seen tables table
before_in tables others table = rows_at rows_before refl (paired tables others) table ∙ before_at tables others table

pub after_in : (tables others : Tables) (table : ℕ) → rows_in (map rows_after (paired tables others)) table ≡ rows_seen others table
after_in tables others table = rows_at rows_after refl (paired tables others) table ∙ after_at tables others table

-- ---- they fit, and miss what is missed at each position

-- each shape's width and key are right
abbrev pub ShapesFit : List Shape → Type 0
ShapesFit shapes = (table : ℕ) → HasItsKey (shape_of shapes table) × ((shape_of shapes table).width ≤ 32)

-- no record is hit where a cell of other tables stands in place of one of these
abbrev pub MissEach : List Record → Tables → Tables → Type 0
MissEach records tables others = (table pos : ℕ) → record_hit records table (item_at tables table pos) (item_at others table pos) ≡ None

pub paired_fit : (shapes : List Shape) (tables others : Tables) → ShapesFit shapes → HaveWidths shapes tables → HaveWidths shapes others
    → FitChanges shapes (paired tables others)
paired_fit shapes tables others fit wide also table = (
  (fit table).0,
  (
    ((fit table).1, subst (HaveWidth (shape_of shapes table).width) (sym (before_at tables others table)) (wide table)),
    ((fit table).1, subst (HaveWidth (shape_of shapes table).width) (sym (after_at tables others table)) (also table)),
  ),
)

cells_miss : (records : List Record) (table : ℕ) (cells others : List Cell)
    → ((i : ℕ) → record_hit records table (get_or cells i None) (get_or others i None) ≡ None) → are_missed records table (paired_cells cells others) ≡ true
cells_miss records table [] [] h = refl
cells_miss records table [] (other ∷ others) h =
    rw (none_hit records table None other (h zero)) (cells_miss records table [] others (λ i. h (suc i)))
cells_miss records table (cell ∷ cells) [] h =
    rw (none_hit records table cell None (h zero)) (cells_miss records table cells [] (λ i. h (suc i)))
cells_miss records table (cell ∷ cells) (other ∷ others) h =
    rw (none_hit records table cell other (h zero)) (cells_miss records table cells others (λ i. h (suc i)))

pub paired_miss : (records : List Record) (tables others : Tables) → MissEach records tables others → Miss records (paired tables others)
paired_miss records tables others h table =
    ap (are_missed records table) (paired_at tables others table)
    ∙ cells_miss records table (get_or tables table []) (get_or others table []) (h table)
