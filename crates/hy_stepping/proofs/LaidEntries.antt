-- The changes of a machine's entry, applied to held tables, leave the tables with the entry's cells over theirs.
use Rattle.std.proofs.Common.{◌≡◌, ℕ, zero, suc, ◌≤◌, List, [], ◌∷◌, ◌++◌, Option, None, Some, length, get_or, refl, ap, sym, ◌∙◌, arith, append_assoc}
use Rattle.std.proofs.Math.ListN.{set}
use Rattle.std.specs.List.{AllByRecursion}
use Rattle.hy_value.specs.declared.Kind.{Kind}
use Rattle.hy_value.specs.declared.change.Change.{Change}
use Rattle.hy_log_record.specs.declared.HeldTable.{HeldTable}
use Rattle.hy_machine.specs.Tables.{Pair, Cell, Tables, overlaid, covered, covered_tables}
use Rattle.hy_machine.specs.Positions.{item_at, by_position, by_table, by_place}
use Rattle.hy_machine.specs.Validation.{change_between, change_at}
use Rattle.hy_redo.specs.Tables.{Held, with_cell, with_table, after_changes}
use Rattle.hy_recovery.specs.Recovered.{held, held_tables}

-- the cell that a pair leaves
abbrev pub left : Pair → Cell
left pair = pair.after

-- each pair begins from the cell at its position
abbrev pub Begin : List Cell → List (Option Pair) → Type 0
Begin cells items = (pos : ℕ) (pair : Pair) → get_or items pos None ≡ Some pair → pair.before ≡ get_or cells pos None

-- so does each pair of several tables
abbrev pub AllBegin : Tables → List (List (Option Pair)) → Type 0
AllBegin tables lists = (table pos : ℕ) (pair : Pair) → item_at lists table pos ≡ Some pair → pair.before ≡ item_at tables table pos

-- ---- an item behind others

cons_behind : {X : Type 0} (front : List X) (x : X) (back : List X) → (front ++ x ∷ []) ++ back ≡ front ++ x ∷ back
cons_behind front x back = append_assoc front (x ∷ []) back

long_behind : {X : Type 0} (front : List X) (x : X) (n : ℕ) → length front ≡ n → length (front ++ x ∷ []) ≡ suc n
long_behind [] x n e = ap suc e
long_behind (y ∷ front) x zero e = absurd (omega (arith, e))
long_behind (y ∷ front) x (suc n) e = ap suc (long_behind front x n (omega (arith, e)))

set_behind : {X : Type 0} (front : List X) (x y : X) (back : List X) (n : ℕ) → length front ≡ n → set (front ++ x ∷ back) n y ≡ front ++ y ∷ back
set_behind [] x y back zero e = refl
set_behind [] x y back (suc n) e = absurd (omega (arith, e))
set_behind (z ∷ front) x y back zero e = absurd (omega (arith, e))
set_behind (z ∷ front) x y back (suc n) e = ap (λ rest. z ∷ rest) (set_behind front x y back n (omega (arith, e)))

-- ---- the rows of one table

-- rows with the row after of each of these changes at its position, whatever its table
abbrev rows_after : List Cell → List Change → List Cell
rows_after rows [] = rows
rows_after rows (change ∷ changes) = set (rows_after rows changes) change.pos change.after

-- with the change at one more position, if it is a change
one_more : (table pos : ℕ) (before after cell : Cell) (front back rows : List Cell) (more : List Change) → length front ≡ pos → before ≡ cell
    → rows_after rows more ≡ front ++ cell ∷ back → rows_after rows (change_between table pos before after ++ more) ≡ front ++ after ∷ back
one_more table pos None None cell front back rows more long e h = h ∙ ap (λ (one : Cell). front ++ one ∷ back) (sym e)
one_more table pos None (Some after) cell front back rows more long e h =
    ap (λ (now : List Cell). set now pos (Some after)) h ∙ set_behind front cell (Some after) back pos long
one_more table pos (Some before) after cell front back rows more long e h =
    ap (λ (now : List Cell). set now pos after) h ∙ set_behind front cell after back pos long

rows_left : (table pos : ℕ) (front cells : List Cell) (items : List (Option Pair)) → length front ≡ pos → length items ≤ length cells
    → Begin cells items → rows_after (front ++ cells) (by_position (change_at table) pos items) ≡ front ++ overlaid (covered left) cells items
rows_left table pos front [] [] long few begin = refl
rows_left table pos front [] (item ∷ items) long few begin = absurd (omega (arith, few))
rows_left table pos front (cell ∷ cells) [] long few begin = refl
rows_left table pos front (cell ∷ cells) (None ∷ items) long few begin =
    ap (λ (rows : List Cell). rows_after rows (by_position (change_at table) (suc pos) items)) (sym (cons_behind front cell cells))
    ∙ (rows_left table (suc pos) (front ++ cell ∷ []) cells items (long_behind front cell pos long) (omega (arith, few)) (λ at pair e. begin (suc at) pair e)
    ∙ cons_behind front cell (overlaid (covered left) cells items))
rows_left table pos front (cell ∷ cells) (Some pair ∷ items) long few begin =
    one_more table pos pair.before pair.after cell front (overlaid (covered left) cells items) (front ++ cell ∷ cells)
    (by_position (change_at table) (suc pos) items) long (begin 0 pair refl)
    (ap (λ (rows : List Cell). rows_after rows (by_position (change_at table) (suc pos) items)) (sym (cons_behind front cell cells))
    ∙ (rows_left table (suc pos) (front ++ cell ∷ []) cells items (long_behind front cell pos long) (omega (arith, few)) (λ at pair e. begin (suc at) pair e)
    ∙ cons_behind front cell (overlaid (covered left) cells items)))

-- ---- tables

after_append : (tables : Held) (changes others : List Change) → after_changes tables (changes ++ others) ≡ after_changes (after_changes tables others) changes
after_append tables [] others = refl
after_append tables (change ∷ changes) others =
    ap (with_table change.table (with_cell change.pos change.after)) (after_append tables changes others)

with_behind : (front : Held) (one : HeldTable) (back : Held) (n : ℕ) (change : HeldTable → HeldTable) → length front ≡ n
    → with_table n change (front ++ one ∷ back) ≡ front ++ change one ∷ back
with_behind [] one back zero change e = refl
with_behind [] one back (suc n) change e = absurd (omega (arith, e))
with_behind (other ∷ front) one back zero change e = absurd (omega (arith, e))
with_behind (other ∷ front) one back (suc n) change e = ap (λ (rest : Held). other ∷ rest) (with_behind front one back n change (omega (arith, e)))

-- changes of one table change its rows
in_one : (front back : Held) (kinds : List Kind) (rows : List Cell) (table : ℕ) (changes : List Change) → length front ≡ table
    → AllByRecursion (λ (change : Change). change.table ≡ table) changes
    → after_changes (front ++ held kinds rows ∷ back) changes ≡ front ++ held kinds (rows_after rows changes) ∷ back
in_one front back kinds rows table [] long of = refl
in_one front back kinds rows table (change ∷ changes) long of =
    ap (with_table change.table (with_cell change.pos change.after)) (in_one front back kinds rows table changes long of.1)
    ∙ with_behind front (held kinds (rows_after rows changes)) back change.table (with_cell change.pos change.after) (long ∙ sym of.0)

between_of : (table pos : ℕ) (before after : Cell) (more : List Change) → AllByRecursion (λ (change : Change). change.table ≡ table) more
    → AllByRecursion (λ (change : Change). change.table ≡ table) (change_between table pos before after ++ more)
between_of table pos None None more h = h
between_of table pos None (Some after) more h = (refl, h)
between_of table pos (Some before) after more h = (refl, h)

all_of : (table pos : ℕ) (items : List (Option Pair)) → AllByRecursion (λ (change : Change). change.table ≡ table) (by_position (change_at table) pos items)
all_of table pos [] = tt
all_of table pos (None ∷ items) = all_of table (suc pos) items
all_of table pos (Some pair ∷ items) =
    between_of table pos pair.before pair.after (by_position (change_at table) (suc pos) items) (all_of table (suc pos) items)

tables_left : (most first : ℕ) (front : Held) (kinds : List (List Kind)) (tables : Tables) (lists : List (List (Option Pair))) → length front ≡ first
    → length tables ≡ length kinds → AllByRecursion (λ (cells : List Cell). length cells ≡ most) tables
    → length lists ≤ length tables → AllByRecursion (λ (items : List (Option Pair)). length items ≤ most) lists → AllBegin tables lists
    → after_changes (front ++ held_tables kinds tables) (by_table change_at first lists) ≡ front ++ held_tables kinds (covered_tables left tables lists)
tables_left most first front [] [] [] long many full few fit begin = refl
tables_left most first front [] [] (items ∷ lists) long many full few fit begin = absurd (omega (arith, few))
tables_left most first front [] (cells ∷ tables) lists long many full few fit begin = absurd (omega (arith, many))
tables_left most first front (one ∷ kinds) [] lists long many full few fit begin = absurd (omega (arith, many))
tables_left most first front (one ∷ kinds) (cells ∷ tables) [] long many full few fit begin = refl
tables_left most first front (one ∷ kinds) (cells ∷ tables) (items ∷ lists) long many full few fit begin =
    let rest : Held = held_tables kinds (covered_tables left tables lists) in
    after_append (front ++ held one cells ∷ held_tables kinds tables) (by_position (change_at first) 0 items) (by_table change_at (suc first) lists)
    ∙ (ap (λ (now : Held). after_changes (after_changes now (by_table change_at (suc first) lists)) (by_position (change_at first) 0 items))
    (sym (cons_behind front (held one cells) (held_tables kinds tables)))
    ∙ (ap (λ (now : Held). after_changes now (by_position (change_at first) 0 items))
    (tables_left most (suc first) (front ++ held one cells ∷ []) kinds tables lists (long_behind front (held one cells) first long)
    (omega (arith, many)) full.1 (omega (arith, few)) fit.1 (λ table pos pair e. begin (suc table) pos pair e)
    ∙ cons_behind front (held one cells) rest)
    ∙ (in_one front rest one cells first (by_position (change_at first) 0 items) long (all_of first 0 items)
    ∙ ap (λ (rows : List Cell). front ++ held one rows ∷ rest)
    (rows_left first 0 [] cells items refl (omega (arith, full.0, fit.0)) (λ pos pair e. begin 0 pos pair e)))))

-- the changes of an entry's cells, on tables that they begin from, leave these tables with the cells over them
pub changes_left : (most : ℕ) (kinds : List (List Kind)) (tables : Tables) (cells : List (List (Option Pair))) → length tables ≡ length kinds
    → AllByRecursion (λ (cells : List Cell). length cells ≡ most) tables → length cells ≤ length tables
    → AllByRecursion (λ (items : List (Option Pair)). length items ≤ most) cells → AllBegin tables cells
    → after_changes (held_tables kinds tables) (by_place change_at cells) ≡ held_tables kinds (covered_tables left tables cells)
changes_left most kinds tables cells = tables_left most 0 [] kinds tables cells refl
