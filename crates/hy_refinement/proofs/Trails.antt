-- What was own when a savepoint was made, and what was written since, where one more write comes; and what is seen over both.
use Rattle.std.proofs.Common.{◌≡◌, ℕ, zero, suc, ◌≤◌, List, [], ◌∷◌, ◌++◌, Option, None, Some, length, take, drop, get_or, refl, sym, ap, ◌∙◌, is_some, true}
use Rattle.std.specs.Prelude.{slice_get}
use Rattle.std.specs.Option.{option_or, unwrap_or}
use Rattle.std.proofs.lemmas.List.{take-append-le, drop-append-le}
use Rattle.hy_machine.specs.declared.Setting.{Setting}
use Rattle.hy_machine.specs.States.{Begun}
use Rattle.hy_machine.specs.Writes.{Write, blank_own, with_write, with_writes}
use Rattle.hy_machine.specs.Positions.{item_at}
use Rattle.hy_machine.specs.Tables.{Cell, Own, Tables, covered, overlaid, over}
use Rattle.hy_machine.specs.Kept.{OwnFits, TrailFits}
use Rattle.hy_machine.specs.OwnCells.{writes_joined}
use Rattle.hy_machine.specs.Saving.{own_since}
use Rattle.hy_machine.specs.Trails.{more_fits, trail_fits, trail_laid, since_own as since_is_own}

pub first_stays : (n : ℕ) (trail : List Write) (write : Write) → n ≤ length trail → take n (trail ++ write ∷ []) ≡ take n trail
first_stays n trail write made = take-append-le n trail (write ∷ []) made

pub since_follows : (setting : Setting) (n : ℕ) (trail : List Write) (write : Write) → n ≤ length trail
    → with_writes (blank_own setting) (drop n (trail ++ write ∷ [])) ≡ with_write (with_writes (blank_own setting) (drop n trail)) write
since_follows setting n trail write made =
    ap (with_writes (blank_own setting)) (drop-append-le n trail (write ∷ []) made) ∙ writes_joined (blank_own setting) (drop n trail) (write ∷ [])

pub since_fits : (setting : Setting) (writes : List Write) → OwnFits setting (with_writes (blank_own setting) writes)
since_fits setting writes = trail_fits setting writes

-- what is kept of the writes, and of savepoints, is kept where one more write comes
pub one_write_fits : (setting : Setting) (begun : Begun) (write : Write) → TrailFits setting begun
    → TrailFits setting (record begun { own = with_write begun.own write; trail = begun.trail ++ write ∷ [] })
one_write_fits setting begun write fits = more_fits setting begun (write ∷ []) fits

-- what was written since is own
pub since_own : (setting : Setting) (begun : Begun) (name : List ℕ) → TrailFits setting begun → (table pos : ℕ)
    → is_some (item_at (own_since setting begun name) table pos) ≡ true → is_some (item_at begun.own table pos) ≡ true
since_own setting begun name fits table pos some = by (item_at (own_since setting begun name) table pos) refl some
  where
    by : (since : Option Cell) → item_at (own_since setting begun name) table pos ≡ since → is_some since ≡ true
        → is_some (item_at begun.own table pos) ≡ true
    by None is there = absurd cc
    by (Some cell) is there = ap is_some (since_is_own setting begun name fits table pos cell is)

-- behind all that was written nothing is left
pub none_dropped : (trail : List Write) → drop (length trail) trail ≡ []
none_dropped [] = refl
none_dropped (write ∷ trail) = none_dropped trail

-- ---- cells over cells

-- what is at a position, if there is such a position
abbrev at_in : {A : Type 0} → Option (List A) → ℕ → Option A
at_in None pos = None
at_in (Some items) pos = slice_get items pos

-- what is seen of a position over which something is laid
abbrev laid : Option Cell → Option Cell → Option Cell
laid None own = None
laid (Some cell) own = Some (covered (λ (one : Cell). one) cell own)

nothing_laid : (cell : Option Cell) → cell ≡ laid cell None
nothing_laid None = refl
nothing_laid (Some cell) = refl

laid_twice : (cell first last : Option Cell) → laid (laid cell first) last ≡ laid cell (option_or last first)
laid_twice None first last = refl
laid_twice (Some cell) first None = refl
laid_twice (Some cell) first (Some last) = refl

cells_laid : (cells : List Cell) (items : List (Option Cell)) (pos : ℕ)
    → slice_get (overlaid (covered (λ (one : Cell). one)) cells items) pos ≡ laid (slice_get cells pos) (get_or items pos None)
cells_laid [] items pos = refl
cells_laid (cell ∷ cells) [] pos = nothing_laid (slice_get (cell ∷ cells) pos)
cells_laid (cell ∷ cells) (item ∷ items) zero = refl
cells_laid (cell ∷ cells) (item ∷ items) (suc pos) = cells_laid cells items pos

tables_laid : (tables : Tables) (own : Own) (table pos : ℕ)
    → at_in (slice_get (over tables own) table) pos ≡ laid (at_in (slice_get tables table) pos) (item_at own table pos)
tables_laid [] own table pos = refl
tables_laid (cells ∷ tables) [] table pos = nothing_laid (at_in (slice_get (cells ∷ tables) table) pos)
tables_laid (cells ∷ tables) (items ∷ own) zero pos = cells_laid cells items pos
tables_laid (cells ∷ tables) (items ∷ own) (suc table) pos = tables_laid tables own table pos

cell_is : (cells : List Cell) (pos : ℕ) → get_or cells pos None ≡ unwrap_or (slice_get cells pos) None
cell_is [] pos = refl
cell_is (cell ∷ cells) zero = refl
cell_is (cell ∷ cells) (suc pos) = cell_is cells pos

item_is : (tables : Tables) (table pos : ℕ) → item_at tables table pos ≡ unwrap_or (at_in (slice_get tables table) pos) None
item_is [] table pos = refl
item_is (cells ∷ tables) zero pos = cell_is cells pos
item_is (cells ∷ tables) (suc table) pos = item_is tables table pos

-- over what was own then, what was written since is what is seen now
pub laid_over : (setting : Setting) (tables : Tables) (trail : List Write) (n table pos : ℕ)
    → item_at (over (over tables (with_writes (blank_own setting) (take n trail))) (with_writes (blank_own setting) (drop n trail))) table pos
    ≡ item_at (over tables (with_writes (blank_own setting) trail)) table pos
laid_over setting tables trail n table pos =
    item_is (over (over tables first) since) table pos
    ∙ (ap (λ (cell : Option Cell). unwrap_or cell None)
    (tables_laid (over tables first) since table pos
    ∙ (ap (λ (cell : Option Cell). laid cell (item_at since table pos)) (tables_laid tables first table pos)
    ∙ (laid_twice (at_in (slice_get tables table) pos) (item_at first table pos) (item_at since table pos)
    ∙ (ap (laid (at_in (slice_get tables table) pos)) (sym (trail_laid setting trail n table pos))
    ∙ sym (tables_laid tables (with_writes (blank_own setting) trail) table pos)))))
    ∙ sym (item_is (over tables (with_writes (blank_own setting) trail)) table pos))
  where
    first : Own
    first = with_writes (blank_own setting) (take n trail)

    since : Own
    since = with_writes (blank_own setting) (drop n trail)
