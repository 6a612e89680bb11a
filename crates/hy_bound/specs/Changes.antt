-- Changes of a table's positions, and whether they hit what was read.
use Rattle.std.specs.Prelude.{◌≡◌, ℕ, List, [], ◌∷◌, Bool, true, not, ◌&&◌, ◌==◌, Option, None, Some, map, slice_index_or}
use Rattle.std.specs.List.{list_any, list_all}
use Rattle.hy_value.specs.declared.Value.{Value}
use Rattle.hy_bound.specs.declared.Record.{Record}
use Rattle.hy_bound.specs.declared.Shape.{Shape}
use Rattle.hy_bound.specs.Records.{is_hit, shape_of}
use Rattle.hy_bound.specs.Agreement.{FitTable, HasItsKey}

-- a position before and after a change: each a row, or absent
abbrev pub Change : Type 0
Change = Option (List Value) × Option (List Value)

-- the rows that are there
abbrev pub present : List (Option (List Value)) → List (List Value)
present [] = []
present (None ∷ cells) = present cells
present (Some row ∷ cells) = row ∷ present cells

-- the rows of a table before changes of its positions, and after them
abbrev pub rows_before : List Change → List (List Value)
rows_before changes = present (map (λ change. change.0) changes)

abbrev pub rows_after : List Change → List (List Value)
rows_after changes = present (map (λ change. change.1) changes)

-- a change hits none of the records
abbrev pub is_missed : List Record → Change → Bool
is_missed records change = not (list_any (λ logged. is_hit logged change.0 change.1) records)

-- changes of a table hit none of the records of that table
abbrev pub are_missed : List Record → ℕ → List Change → Bool
are_missed records table changes =
    list_all (λ change. not (list_any (λ logged. logged.table == table && is_hit logged change.0 change.1) records)) changes

-- the changes of a table
abbrev pub changes_at : List (List Change) → ℕ → List Change
changes_at changes table = slice_index_or changes table []

-- changes of all tables hit none of the records
abbrev pub Miss : List Record → List (List Change) → Type 0
Miss records changes = (table : ℕ) → are_missed records table (changes_at changes table) ≡ true

-- the rows before and after changes fit their tables
abbrev pub FitChanges : List Shape → List (List Change) → Type 0
FitChanges shapes changes = (table : ℕ)
    → HasItsKey (shape_of shapes table)
    × (FitTable (shape_of shapes table) (rows_before (changes_at changes table)) × FitTable (shape_of shapes table) (rows_after (changes_at changes table)))
