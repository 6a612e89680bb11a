-- Tables with a transaction's own writes over them, after one more write and after many.
use Rattle.std.proofs.Common.{◌≡◌, ℕ, zero, suc, ◌<◌, ◌≤◌, List, [], ◌∷◌, Option, None, Some, length, map, get_or, replicate, refl, ap, sym, ◌∙◌, subst, arith}
use Rattle.std.proofs.Math.ListN.{set}
use Rattle.std.specs.List.{AllByRecursion}
use Rattle.std.proofs.lemmas.List.{length-set, set-get_or}
use Rattle.hy_value.specs.declared.Value.{Value}
use Rattle.hy_machine.specs.Writes.{Write, with_write, with_writes}
use Rattle.hy_machine.specs.Positions.{item_at}
use Rattle.hy_machine.specs.Tables.{Cell, Tables, Own, overlaid, covered, over}

-- own writes have as many tables and positions as the tables
abbrev pub Alike : Tables → Own → Type 0
Alike [] [] = Unit {0}
Alike [] (items ∷ own) = ⊥
Alike (cells ∷ tables) [] = ⊥
Alike (cells ∷ tables) (items ∷ own) = (length items ≡ length cells) × Alike tables own

-- each table has so many positions
abbrev pub HavePositions : ℕ → Tables → Type 0
HavePositions positions tables = AllByRecursion (λ (cells : List Cell). length cells ≡ positions) tables

-- the cells of a table with own writes over them
abbrev laid : List Cell → List (Option Cell) → List Cell
laid = overlaid (covered (λ (own : Cell). own))

-- a cell is put at a position of a table
abbrev pub put : Tables → ℕ → ℕ → Cell → Tables
put view table pos cell = set view table (set (get_or view table []) pos cell)

-- cells of a table after writes
abbrev pub puts : List Cell → List Write → List Cell
puts cells [] = cells
puts cells (write ∷ writes) = puts (set cells write.pos write.cell) writes

-- writes are of one table
abbrev pub AreIn : ℕ → List Write → Type 0
AreIn table writes = AllByRecursion (λ (write : Write). write.table ≡ table) writes

-- ---- sizes

replicate_length : {X : Type 0} (n : ℕ) (x : X) → length (replicate n x) ≡ n
replicate_length zero x = refl
replicate_length (suc n) x = ap suc (replicate_length n x)

pub blank_alike : (positions : ℕ) (tables : Tables) (first : List (List (List Value))) → length tables ≡ length first → HavePositions positions tables
    → Alike tables (map (λ rows. replicate positions None) first)
blank_alike positions [] [] e h = tt
blank_alike positions [] (rows ∷ first) e h = absurd (omega arith)
blank_alike positions (cells ∷ tables) [] e h = absurd (omega arith)
blank_alike positions (cells ∷ tables) (rows ∷ first) e h =
    (replicate_length {X = Option Cell} positions None ∙ sym h.0, blank_alike positions tables first (omega arith) h.1)

laid_length : (cells : List Cell) (items : List (Option Cell)) → length (laid cells items) ≡ length cells
laid_length [] items = refl
laid_length (cell ∷ cells) [] = refl
laid_length (cell ∷ cells) (item ∷ items) = ap suc (laid_length cells items)

pub over_length : (tables : Tables) (own : Own) → length (over tables own) ≡ length tables
over_length [] own = refl
over_length (cells ∷ tables) [] = refl
over_length (cells ∷ tables) (items ∷ own) = ap suc (over_length tables own)

pub over_positions : (positions : ℕ) (tables : Tables) (own : Own) → HavePositions positions tables → HavePositions positions (over tables own)
over_positions positions [] own h = tt
over_positions positions (cells ∷ tables) [] h = h
over_positions positions (cells ∷ tables) (items ∷ own) h = (laid_length cells items ∙ h.0, over_positions positions tables own h.1)

pub few_positions : (positions : ℕ) (tables : Tables) (table : ℕ) → HavePositions positions tables → length (get_or tables table []) ≤ positions
few_positions positions [] table h = omega arith
few_positions positions (cells ∷ tables) zero h = omega (arith, h.0)
few_positions positions (cells ∷ tables) (suc table) h = few_positions positions tables table h.1

-- ---- nothing is written

laid_blank : (cells : List Cell) (positions : ℕ) → laid cells (replicate positions None) ≡ cells
laid_blank [] positions = refl
laid_blank (cell ∷ cells) zero = refl
laid_blank (cell ∷ cells) (suc positions) = ap (λ (more : List Cell). cell ∷ more) (laid_blank cells positions)

pub over_blank : (positions : ℕ) (tables : Tables) (first : List (List (List Value))) → over tables (map (λ rows. replicate positions None) first) ≡ tables
over_blank positions [] first = refl
over_blank positions (cells ∷ tables) [] = refl
over_blank positions (cells ∷ tables) (rows ∷ first) =
    ap (λ (more : List Cell). more ∷ over tables (map (λ one. replicate positions None) first)) (laid_blank cells positions)
    ∙ ap (λ (more : Tables). cells ∷ more) (over_blank positions tables first)

-- ---- a write

laid_set : (cells : List Cell) (items : List (Option Cell)) (pos : ℕ) (cell : Cell) → length items ≡ length cells
    → laid cells (set items pos (Some cell)) ≡ set (laid cells items) pos cell
laid_set [] items pos cell e = refl
laid_set (first ∷ cells) [] pos cell e = absurd (omega arith)
laid_set (first ∷ cells) (item ∷ items) zero cell e = refl
laid_set (first ∷ cells) (item ∷ items) (suc pos) cell e =
    ap (λ (more : List Cell). covered (λ (own : Cell). own) first item ∷ more) (laid_set cells items pos cell (omega arith))

write_alike_at : (tables : Tables) (own : Own) (table pos : ℕ) (cell : Cell) → Alike tables own
    → Alike tables (set own table (set (get_or own table []) pos (Some cell)))
write_alike_at [] [] table pos cell h = tt
write_alike_at [] (items ∷ own) table pos cell h = absurd h
write_alike_at (cells ∷ tables) [] table pos cell h = absurd h
write_alike_at (cells ∷ tables) (items ∷ own) zero pos cell h = (length-set items pos (Some cell) ∙ h.0, h.1)
write_alike_at (cells ∷ tables) (items ∷ own) (suc table) pos cell h = (h.0, write_alike_at tables own table pos cell h.1)

pub write_alike : (tables : Tables) (own : Own) (write : Write) → Alike tables own → Alike tables (with_write own write)
write_alike tables own write h = write_alike_at tables own write.table write.pos write.cell h

over_put : (tables : Tables) (own : Own) (table pos : ℕ) (cell : Cell) → Alike tables own
    → over tables (set own table (set (get_or own table []) pos (Some cell))) ≡ put (over tables own) table pos cell
over_put [] own table pos cell h = refl
over_put (cells ∷ tables) [] table pos cell h = absurd h
over_put (cells ∷ tables) (items ∷ own) zero pos cell h = ap (λ (more : List Cell). more ∷ over tables own) (laid_set cells items pos cell h.0)
over_put (cells ∷ tables) (items ∷ own) (suc table) pos cell h = ap (λ (more : Tables). laid cells items ∷ more) (over_put tables own table pos cell h.1)

-- the tables after a write
pub over_write : (tables : Tables) (own : Own) (write : Write) → Alike tables own
    → over tables (with_write own write) ≡ put (over tables own) write.table write.pos write.cell
over_write tables own write h = over_put tables own write.table write.pos write.cell h

-- ---- writes of one table

pub writes_alike : (tables : Tables) (own : Own) (writes : List Write) → Alike tables own → Alike tables (with_writes own writes)
writes_alike tables own [] h = h
writes_alike tables own (write ∷ writes) h = writes_alike tables (with_write own write) writes (write_alike tables own write h)

set_again : {X : Type 0} (xs : List X) (i : ℕ) (d y : X) (g : X → X) → set (set xs i y) i (g (get_or (set xs i y) i d)) ≡ set xs i (g y)
set_again [] i d y g = refl
set_again (x ∷ xs) zero d y g = refl
set_again (x ∷ xs) (suc i) d y g = ap (λ more. x ∷ more) (set_again xs i d y g)

-- the tables after writes of one of them
pub over_writes : (tables : Tables) (own : Own) (table : ℕ) (writes : List Write) → Alike tables own → AreIn table writes
    → over tables (with_writes own writes) ≡ set (over tables own) table (puts (get_or (over tables own) table []) writes)
over_writes tables own table [] h in_it = sym (set-get_or (over tables own) table [])
over_writes tables own table (write ∷ writes) h in_it =
    let view : Tables = over tables own in
    let here : List Cell = set (get_or view table []) write.pos write.cell in
    let first : over tables (with_write own write) ≡ set view table here =
    subst (λ (n : ℕ). over tables (with_write own write) ≡ put view n write.pos write.cell) in_it.0 (over_write tables own write h) in
    over_writes tables (with_write own write) table writes (write_alike tables own write h) in_it.1
    ∙ (ap (λ (more : Tables). set more table (puts (get_or more table []) writes)) first
    ∙ set_again view table [] here (λ cells. puts cells writes))

-- ---- positions

pub positions_there : (positions : ℕ) (tables : Tables) (table : ℕ) → HavePositions positions tables → table < length tables
    → length (get_or tables table []) ≡ positions
positions_there positions [] table h below = absurd (omega arith)
positions_there positions (cells ∷ tables) zero h below = h.0
positions_there positions (cells ∷ tables) (suc table) h below = positions_there positions tables table h.1 (omega arith)

laid_none : (cells : List Cell) (items : List (Option Cell)) (pos : ℕ) → get_or cells pos None ≡ None → get_or items pos None ≡ None
    → get_or (laid cells items) pos None ≡ None
laid_none [] items pos e f = refl
laid_none (cell ∷ cells) [] pos e f = e
laid_none (cell ∷ cells) (item ∷ items) zero e f = ap (covered (λ (own : Cell). own) cell) f ∙ e
laid_none (cell ∷ cells) (item ∷ items) (suc pos) e f = laid_none cells items pos e f

-- where neither the tables nor own writes have anything there is nothing
pub over_none : (tables : Tables) (own : Own) (table pos : ℕ) → item_at tables table pos ≡ None → item_at own table pos ≡ None
    → item_at (over tables own) table pos ≡ None
over_none [] own table pos e f = refl
over_none (cells ∷ tables) [] table pos e f = e
over_none (cells ∷ tables) (items ∷ own) zero pos e f = laid_none cells items pos e f
over_none (cells ∷ tables) (items ∷ own) (suc table) pos e f = over_none tables own table pos e f
