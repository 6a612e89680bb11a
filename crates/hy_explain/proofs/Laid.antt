-- Changes that are laid over the cells of a table, position by position.
use Rattle.std.proofs.Common.{◌≡◌, ℕ, zero, suc, ◌+◌, ◌<◌, ◌≤◌, List, [], ◌∷◌, length, drop, get_or, map, Option, None, Some, Bool, true, false, cond, refl, ap, sym, ◌∙◌, arith, zero-add}
use Rattle.std.specs.Prelude.{◌&&◌, ◌==◌, slice_get, slice_set, if◌then◌else◌}
use Rattle.std.specs.List.{range_with_len}
use Rattle.std.specs.Option.{option_map}
use Rattle.std.proofs.Math.Dec.{eqb-suc-zero, eqb-zero-suc, eqb-suc-suc}
use Rattle.std.proofs.lemmas.Iterator.Adapters.{option_map_id}
use Rattle.std.proofs.lemmas.List.{drop_more, drop_all}
use Rattle.hy_value.specs.declared.change.Change.{Change}
use Rattle.hy_value.specs.declared.Value.{Value}
use Rattle.hy_render.specs.declared.Committed.{Committed as Entry}
use Rattle.hy_machine.specs.Tables.{Cell, laid_out}
use Rattle.hy_lawful.specs.Cells.{after_changes}
use Rattle.hy_explain.specs.Behind.{changes_of, cells_after}
use Rattle.hy_explain.proofs.Pieces.{changes_in_turn}

-- ---- lists by position

-- what stands at a position after one was set
get_set : (cells : List Cell) (at : ℕ) (cell : Cell) (pos : ℕ)
    → slice_get (slice_set cells at cell) pos ≡ option_map (λ (was : Cell). if at == pos then cell else was) (slice_get cells pos)
get_set [] at cell pos = refl
get_set (first ∷ cells) zero cell zero = refl
get_set (first ∷ cells) zero cell (suc pos) = rw (eqb-zero-suc pos) (sym (option_map_id (slice_get cells pos)))
get_set (first ∷ cells) (suc at) cell zero = rw (eqb-suc-zero at) refl
get_set (first ∷ cells) (suc at) cell (suc pos) = rw (eqb-suc-suc at pos) (get_set cells at cell pos)

-- lists that have the same at each position are the same
pub same_at_each : {X : Type 0} (xs ys : List X) → ((pos : ℕ) → slice_get xs pos ≡ slice_get ys pos) → xs ≡ ys
same_at_each [] [] h = refl
same_at_each [] (y ∷ ys) h = absurd (let e = h 0 in cc)
same_at_each (x ∷ xs) [] h = absurd (let e = h 0 in cc)
same_at_each (x ∷ xs) (y ∷ ys) h =
    let first : x ≡ y = (let e = h 0 in cc) in
    (λ j. first j ∷ same_at_each xs ys (λ pos. h (suc pos)) j)

-- a list that is made position by position, changed position by position
pub made_at : {X : Type 0} (f : ℕ → X) (g : ℕ → X → X) (from count pos : ℕ)
    → option_map (g (from + pos)) (slice_get (map f (range_with_len from count)) pos)
    ≡ slice_get (map (λ (n : ℕ). g n (f n)) (range_with_len from count)) pos
made_at f g from zero pos = refl
made_at f g from (suc count) zero =
    ap (λ (n : ℕ). Some (g n (f from))) (let e : from + zero ≡ from = omega arith in e)
made_at {X} f g from (suc count) (suc pos) =
    ap (λ (n : ℕ). option_map (g n) (slice_get (map f (range_with_len (from + 1) count)) pos))
    (let e : from + suc pos ≡ (from + 1) + pos = omega arith in e)
    ∙ made_at f g (from + 1) count pos

-- one step of an option and then another
pub in_turn : {X : Type 0} (f g : X → X) (o : Option X) → option_map f (option_map g o) ≡ option_map (λ (x : X). f (g x)) o
in_turn f g None = refl
in_turn f g (Some x) = refl

-- ---- the next change

-- it makes of a cell of its table what it leaves there, and leaves the others
next_at : (table : ℕ) (cells next : List Cell) (change : Change) (here : Bool) → (change.table == table) ≡ here
    → next ≡ cond here (slice_set cells change.pos change.after) cells → (pos : ℕ)
    → slice_get next pos ≡ option_map (λ (was : Cell). if change.table == table && change.pos == pos then change.after else was) (slice_get cells pos)
next_at table cells next change true here is pos =
    ap (λ (all : List Cell). slice_get all pos) is ∙ (get_set cells change.pos change.after pos
    ∙ ap (λ (b : Bool). option_map (λ (was : Cell). if b && change.pos == pos then change.after else was) (slice_get cells pos)) (sym here))
next_at table cells next change false here is pos =
    ap (λ (all : List Cell). slice_get all pos) is ∙ (sym (option_map_id (slice_get cells pos))
    ∙ ap (λ (b : Bool). option_map (λ (was : Cell). if b && change.pos == pos then change.after else was) (slice_get cells pos)) (sym here))

-- so what is left makes of the cells what it made of them with the change
pub change_laid : (table : ℕ) (changes : List Change) (cells next : List Cell) (number : ℕ) (change : Change) (here : Bool)
    → number < length changes → change ≡ get_or changes number change → (change.table == table) ≡ here
    → next ≡ cond here (slice_set cells change.pos change.after) cells → (pos : ℕ)
    → option_map (λ (cell : Cell). after_changes table pos cell (drop (number + 1) changes)) (slice_get next pos)
    ≡ option_map (λ (cell : Cell). after_changes table pos cell (drop number changes)) (slice_get cells pos)
change_laid table changes cells next number change here below is at laid pos =
    let rest : List Change = drop (number + 1) changes in
    let split : drop number changes ≡ change ∷ rest
    = drop_more changes number change below ∙ ap (λ (v : Change). v ∷ rest) (sym is) in
    ap (option_map (λ (cell : Cell). after_changes table pos cell rest)) (next_at table cells next change here at laid pos)
    ∙ (in_turn (λ (cell : Cell). after_changes table pos cell rest)
    (λ (was : Cell). if change.table == table && change.pos == pos then change.after else was) (slice_get cells pos)
    ∙ ap (λ (those : List Change). option_map (λ (cell : Cell). after_changes table pos cell those) (slice_get cells pos)) (sym split))

-- ---- the next entry

-- what is left makes of the cells what it made of them with the entry
pub entry_laid : (table : ℕ) (entries : List Entry) (cells next : List Cell) (number : ℕ) (entry : Entry)
    → number < length entries → entry ≡ get_or entries number entry → (pos : ℕ)
    → slice_get next pos ≡ option_map (λ (cell : Cell). after_changes table pos cell entry.changes) (slice_get cells pos)
    → option_map (λ (cell : Cell). after_changes table pos cell (changes_of (drop (number + 1) entries))) (slice_get next pos)
    ≡ option_map (λ (cell : Cell). after_changes table pos cell (changes_of (drop number entries))) (slice_get cells pos)
entry_laid table entries cells next number entry below is pos laid =
    let rest : List Entry = drop (number + 1) entries in
    let split : drop number entries ≡ entry ∷ rest
    = drop_more entries number entry below ∙ ap (λ (v : Entry). v ∷ rest) (sym is) in
    ap (option_map (λ (cell : Cell). after_changes table pos cell (changes_of rest))) laid
    ∙ (in_turn (λ (cell : Cell). after_changes table pos cell (changes_of rest)) (λ (cell : Cell). after_changes table pos cell entry.changes) (slice_get cells pos)
    ∙ (each (λ (cell : Cell). sym (changes_in_turn table pos cell entry.changes (changes_of rest))) (slice_get cells pos)
    ∙ ap (λ (those : List Entry). option_map (λ (cell : Cell). after_changes table pos cell (changes_of those)) (slice_get cells pos)) (sym split)))
  where
    each : {f g : Cell → Cell} → ((cell : Cell) → f cell ≡ g cell) → (o : Option Cell) → option_map f o ≡ option_map g o
    each same None = refl
    each same (Some cell) = ap Some (same cell)

-- rows that are laid out, and all entries over them
pub first_laid : (rows : List (List Value)) (table : ℕ) (entries : List Entry) (positions : ℕ) (cells : List Cell) → cells ≡ laid_out positions rows → (pos : ℕ)
    → option_map (λ (cell : Cell). after_changes table pos cell (changes_of entries)) (slice_get cells pos) ≡ slice_get (cells_after rows table entries positions) pos
first_laid rows table entries positions cells is pos =
    ap (λ (all : List Cell). option_map (λ (cell : Cell). after_changes table pos cell (changes_of entries)) (slice_get all pos)) is
    ∙ (ap (λ (n : ℕ). option_map (λ (cell : Cell). after_changes table n cell (changes_of entries)) (slice_get (laid_out positions rows) pos)) (sym (zero-add pos))
    ∙ made_at (slice_get rows) (λ (n : ℕ) (cell : Cell). after_changes table n cell (changes_of entries)) 0 positions pos)

-- where none are left the cells are these
pub all_laid : (rows : List (List Value)) (table : ℕ) (entries : List Entry) (positions number : ℕ) (cells : List Cell) → length entries ≤ number
    → ((pos : ℕ) → option_map (λ (cell : Cell). after_changes table pos cell (changes_of (drop number entries))) (slice_get cells pos)
    ≡ slice_get (cells_after rows table entries positions) pos)
    → cells ≡ cells_after rows table entries positions
all_laid rows table entries positions number cells past so =
    same_at_each cells (cells_after rows table entries positions) (λ pos. sym (option_map_id (slice_get cells pos))
    ∙ (ap (λ (those : List Entry). option_map (λ (cell : Cell). after_changes table pos cell (changes_of those)) (slice_get cells pos)) (sym (drop_all number entries past))
    ∙ so pos))
