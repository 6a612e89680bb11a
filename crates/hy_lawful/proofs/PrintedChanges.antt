-- The printed changes of an entry, one by one, and what they leave at a position.
use Rattle.std.proofs.Common.{◌≡◌, ℕ, zero, suc, ◌+◌, ◌<◌, List, [], ◌∷◌, ◌++◌, Option, None, Some, Bool, true}
use Rattle.std.proofs.Common.{false, is_some, get_or, cond, refl, ap, sym, ◌∙◌}
use Rattle.std.proofs.Common.{subst, arith, inl, inr, ◌⊎◌, zero-add, add-zero}
use Rattle.std.specs.Prelude.{◌&&◌, ◌||◌, ◌==◌, IfSome}
use Rattle.std.specs.List.{AllByRecursion, list_any}
use Rattle.std.proofs.lemmas.Bool.{and_left, and_right, and_from, or_left, or_right, eq-eqb, ne_eqb}
use Rattle.std.proofs.lemmas.List.Folds.{list_any-append}
use Rattle.std.proofs.lemmas.Option.{same_Some}
use Rattle.hy_value.specs.declared.change.Change.{Change}
use Rattle.hy_machine.specs.Tables.{Pair, Cell, covered}
use Rattle.hy_machine.specs.Positions.{item_at, by_position, by_table, by_place}
use Rattle.hy_machine.specs.Validation.{change_between, change_at}
use Rattle.hy_lawful.specs.Cells.{after_changes}
use Rattle.hy_lawful.proofs.Lists.{all_joined}

-- ---- one by one

all_in_table : {A B : Type 0} (P : B → Type 0) (f : ℕ → A → List B) (at : ℕ) (items : List (Option A))
    → ((i : ℕ) (item : A) → get_or items i None ≡ Some item → AllByRecursion P (f (at + i) item)) → AllByRecursion P (by_position f at items)
all_in_table P f at [] h = tt
all_in_table P f at (None ∷ items) h = all_in_table P f (suc at) items (λ i item e.
    subst (λ (n : ℕ). AllByRecursion P (f n item)) (let same : at + suc i ≡ suc at + i = omega arith in same) (h (suc i) item e))
all_in_table P f at (Some one ∷ items) h =
    all_joined P (f at one) (by_position f (suc at) items) (subst (λ (n : ℕ). AllByRecursion P (f n one)) (add-zero at) (h 0 one refl))
    (all_in_table P f (suc at) items (λ i item e.
    subst (λ (n : ℕ). AllByRecursion P (f n item)) (let same : at + suc i ≡ suc at + i = omega arith in same) (h (suc i) item e)))

all_in_tables : {A B : Type 0} (P : B → Type 0) (f : ℕ → ℕ → A → List B) (first : ℕ) (lists : List (List (Option A)))
    → ((table pos : ℕ) (item : A) → item_at lists table pos ≡ Some item → AllByRecursion P (f (first + table) pos item))
    → AllByRecursion P (by_table f first lists)
all_in_tables P f first [] h = tt
all_in_tables P f first (items ∷ lists) h =
    all_joined P (by_position (f first) 0 items) (by_table f (suc first) lists)
    (all_in_table P (f first) 0 items (λ i item e.
    subst (λ (n : ℕ). AllByRecursion P (f first n item)) (sym (zero-add i))
    (subst (λ (n : ℕ). AllByRecursion P (f n i item)) (add-zero first) (h 0 i item e))))
    (all_in_tables P f (suc first) lists (λ table pos item e.
    subst (λ (n : ℕ). AllByRecursion P (f n pos item)) (let same : first + suc table ≡ suc first + table = omega arith in same) (h (suc table) pos item e)))

-- what holds of what each position gives holds of all
pub all_by_place : {A B : Type 0} (P : B → Type 0) (f : ℕ → ℕ → A → List B) (lists : List (List (Option A)))
    → ((table pos : ℕ) (item : A) → item_at lists table pos ≡ Some item → AllByRecursion P (f table pos item)) → AllByRecursion P (by_place f lists)
all_by_place P f lists h = all_in_tables P f 0 lists
    (λ table pos item e. subst (λ (n : ℕ). AllByRecursion P (f n pos item)) (sym (zero-add table)) (h table pos item e))

any_in_table : {A B : Type 0} (test : B → Bool) (f : ℕ → A → List B) (at : ℕ) (items : List (Option A)) (i : ℕ) (item : A)
    → get_or items i None ≡ Some item → list_any test (f (at + i) item) ≡ true → list_any test (by_position f at items) ≡ true
any_in_table test f at [] i item e h = absurd cc
any_in_table test f at (None ∷ items) zero item e h = absurd cc
any_in_table test f at (None ∷ items) (suc i) item e h = any_in_table test f (suc at) items i item e
    (ap (λ (n : ℕ). list_any test (f n item)) (let same : suc at + i ≡ at + suc i = omega arith in same) ∙ h)
any_in_table {A = A} test f at (Some one ∷ items) zero item e h =
    list_any-append test (f at one) (by_position f (suc at) items)
    ∙ or_left (list_any test (f at one)) (list_any test (by_position f (suc at) items))
    (ap (λ (x : A). list_any test (f at x)) (same_Some one item e) ∙ (ap (λ (n : ℕ). list_any test (f n item)) (sym (add-zero at)) ∙ h))
any_in_table test f at (Some one ∷ items) (suc i) item e h =
    list_any-append test (f at one) (by_position f (suc at) items)
    ∙ or_right (list_any test (f at one)) (list_any test (by_position f (suc at) items))
    (any_in_table test f (suc at) items i item e
    (ap (λ (n : ℕ). list_any test (f n item)) (let same : suc at + i ≡ at + suc i = omega arith in same) ∙ h))

any_in_tables : {A B : Type 0} (test : B → Bool) (f : ℕ → ℕ → A → List B) (first : ℕ) (lists : List (List (Option A))) (table pos : ℕ) (item : A)
    → item_at lists table pos ≡ Some item → list_any test (f (first + table) pos item) ≡ true → list_any test (by_table f first lists) ≡ true
any_in_tables test f first [] table pos item e h = absurd cc
any_in_tables test f first (items ∷ lists) zero pos item e h =
    list_any-append test (by_position (f first) 0 items) (by_table f (suc first) lists)
    ∙ or_left (list_any test (by_position (f first) 0 items)) (list_any test (by_table f (suc first) lists))
    (any_in_table test (f first) 0 items pos item e
    (ap (λ (n : ℕ). list_any test (f first n item)) (zero-add pos) ∙ (ap (λ (n : ℕ). list_any test (f n pos item)) (sym (add-zero first)) ∙ h)))
any_in_tables test f first (items ∷ lists) (suc table) pos item e h =
    list_any-append test (by_position (f first) 0 items) (by_table f (suc first) lists)
    ∙ or_right (list_any test (by_position (f first) 0 items)) (list_any test (by_table f (suc first) lists))
    (any_in_tables test f (suc first) lists table pos item e
    (ap (λ (n : ℕ). list_any test (f n pos item)) (let same : suc first + table ≡ first + suc table = omega arith in same) ∙ h))

-- what one position gives is among what all give
pub any_by_place : {A B : Type 0} (test : B → Bool) (f : ℕ → ℕ → A → List B) (lists : List (List (Option A))) (table pos : ℕ) (item : A)
    → item_at lists table pos ≡ Some item → list_any test (f table pos item) ≡ true → list_any test (by_place f lists) ≡ true
any_by_place test f lists table pos item e h =
    any_in_tables test f 0 lists table pos item e (ap (λ (n : ℕ). list_any test (f n pos item)) (zero-add table) ∙ h)

between : (P : Change → Type 0) (table pos : ℕ) (before after : Cell)
    → ((is_some before || is_some after) ≡ true → P (record { table = table; pos = pos; before = before; after = after }))
    → AllByRecursion P (change_between table pos before after)
between P table pos None None h = tt
between P table pos None (Some after) h = (h refl, tt)
between P table pos (Some before) after h = (h refl, tt)

-- what holds of each pair that is not from nothing to nothing holds of each printed change
pub all_changes : (P : Change → Type 0) (cells : List (List (Option Pair)))
    → ((table pos : ℕ) (pair : Pair) → item_at cells table pos ≡ Some pair → (is_some pair.before || is_some pair.after) ≡ true
    → P (record { table = table; pos = pos; before = pair.before; after = pair.after }))
    → AllByRecursion P (by_place change_at cells)
all_changes P cells h = all_by_place P change_at cells (λ table pos pair e. between P table pos pair.before pair.after (h table pos pair e))

-- ---- what they leave

pub after_append : (table pos : ℕ) (cell : Cell) (changes others : List Change)
    → after_changes table pos cell (changes ++ others) ≡ after_changes table pos (after_changes table pos cell changes) others
after_append table pos cell [] others = refl
after_append table pos cell (change ∷ changes) others =
    after_append table pos (cond (change.table == table && change.pos == pos) change.after cell) changes others

-- a change of another position
abbrev IsElsewhere : ℕ → ℕ → Change → Type 0
IsElsewhere table pos change = (change.table == table && change.pos == pos) ≡ false

after_others : (table pos : ℕ) (cell : Cell) (changes : List Change) → AllByRecursion (IsElsewhere table pos) changes
    → after_changes table pos cell changes ≡ cell
after_others table pos cell [] h = refl
after_others table pos cell (change ∷ changes) h =
    ap (λ (b : Bool). after_changes table pos (cond b change.after cell) changes) h.0 ∙ after_others table pos cell changes h.1

not_there : (table pos at other : ℕ) → (other ≡ pos → ⊥) → (at == table && other == pos) ≡ false
not_there table pos at other n = and_right (at == table) (other == pos) (ne_eqb other pos n)

not_of : (table pos at other : ℕ) → (at ≡ table → ⊥) → (at == table && other == pos) ≡ false
not_of table pos at other n = and_left (at == table) (other == pos) (ne_eqb at table n)

-- the changes behind a position leave it, and so do those of another table
after_behind : (table pos at : ℕ) (cell : Cell) (items : List (Option Pair)) → pos < at
    → after_changes table pos cell (by_position (change_at table) at items) ≡ cell
after_behind table pos at cell items below = after_others table pos cell (by_position (change_at table) at items)
    (all_in_table (IsElsewhere table pos) (change_at table) at items (λ i pair e. between (IsElsewhere table pos) table (at + i) pair.before pair.after
    (λ some. not_there table pos table (at + i) (λ same. omega (arith, below, same)))))

after_elsewhere : (table pos other at : ℕ) (cell : Cell) (items : List (Option Pair)) → (other ≡ table → ⊥)
    → after_changes table pos cell (by_position (change_at other) at items) ≡ cell
after_elsewhere table pos other at cell items n = after_others table pos cell (by_position (change_at other) at items)
    (all_in_table (IsElsewhere table pos) (change_at other) at items (λ i pair e. between (IsElsewhere table pos) other (at + i) pair.before pair.after
    (λ some. not_of table pos other (at + i) n)))

after_tables : (table pos first : ℕ) (cell : Cell) (lists : List (List (Option Pair))) → table < first
    → after_changes table pos cell (by_table change_at first lists) ≡ cell
after_tables table pos first cell lists below = after_others table pos cell (by_table change_at first lists)
    (all_in_tables (IsElsewhere table pos) change_at first lists (λ other at pair e.
    between (IsElsewhere table pos) (first + other) at pair.before pair.after
    (λ some. not_of table pos (first + other) at (λ same. omega (arith, below, same)))))

-- the change between two cells leaves the second, where the first one stood
between_here : (table pos : ℕ) (cell before after : Cell) → before ≡ cell → after_changes table pos cell (change_between table pos before after) ≡ after
between_here table pos cell None None e = sym e
between_here table pos cell None (Some after) e = ap (λ (b : Bool). cond b (Some after) cell)
    (and_from (table == table) (pos == pos) (eq-eqb table table refl) (eq-eqb pos pos refl))
between_here table pos cell (Some before) after e = ap (λ (b : Bool). cond b after cell)
    (and_from (table == table) (pos == pos) (eq-eqb table table refl) (eq-eqb pos pos refl))

between_there : (table pos at : ℕ) (cell before after : Cell) → pos < at ⊎ at < pos
    → after_changes table pos cell (change_between table at before after) ≡ cell
between_there table pos at cell before after apart = after_others table pos cell (change_between table at before after)
    (between (IsElsewhere table pos) table at before after (λ some. not_there table pos table at (λ same. elim apart [
      | inl low ↦ omega (arith, low, same)
      | inr high ↦ omega (arith, high, same)
    ])))

-- the pair at a position starts from the cell
abbrev pub StartsFrom : Cell → Option Pair → Type 0
StartsFrom cell item = IfSome item (λ (pair : Pair). pair.before ≡ cell)

after_in_table : (table pos at : ℕ) (cell : Cell) (items : List (Option Pair)) (i : ℕ) → at + i ≡ pos → StartsFrom cell (get_or items i None)
    → after_changes table pos cell (by_position (change_at table) at items) ≡ covered (λ (pair : Pair). pair.after) cell (get_or items i None)
after_in_table table pos at cell [] i e h = refl
after_in_table table pos at cell (None ∷ items) zero e h = after_behind table pos (suc at) cell items (omega (arith, e))
after_in_table table pos at cell (None ∷ items) (suc i) e h =
    after_in_table table pos (suc at) cell items i (let same : suc at + i ≡ pos = omega (arith, e) in same) h
after_in_table table pos at cell (Some pair ∷ items) zero e h =
    after_append table pos cell (change_at table at pair) (by_position (change_at table) (suc at) items)
    ∙ (after_behind table pos (suc at) (after_changes table pos cell (change_at table at pair)) items (omega (arith, e))
    ∙ subst (λ (n : ℕ). after_changes table pos cell (change_between table n pair.before pair.after) ≡ pair.after)
    (let same : pos ≡ at = omega (arith, e) in same) (between_here table pos cell pair.before pair.after h))
after_in_table table pos at cell (Some pair ∷ items) (suc i) e h =
    after_append table pos cell (change_at table at pair) (by_position (change_at table) (suc at) items)
    ∙ (ap (λ (one : Cell). after_changes table pos one (by_position (change_at table) (suc at) items))
    (between_there table pos at cell pair.before pair.after (inr (omega (arith, e))))
    ∙ after_in_table table pos (suc at) cell items i (let same : suc at + i ≡ pos = omega (arith, e) in same) h)

after_in_tables : (table pos first : ℕ) (cell : Cell) (lists : List (List (Option Pair))) (k : ℕ) → first + k ≡ table
    → StartsFrom cell (item_at lists k pos)
    → after_changes table pos cell (by_table change_at first lists) ≡ covered (λ (pair : Pair). pair.after) cell (item_at lists k pos)
after_in_tables table pos first cell [] k e h = refl
after_in_tables table pos first cell (items ∷ lists) zero e h =
    after_append table pos cell (by_position (change_at first) 0 items) (by_table change_at (suc first) lists)
    ∙ (after_tables table pos (suc first) (after_changes table pos cell (by_position (change_at first) 0 items)) lists (omega (arith, e))
    ∙ subst (λ (n : ℕ). after_changes table pos cell (by_position (change_at n) 0 items) ≡ covered (λ (pair : Pair). pair.after) cell (get_or items pos None))
    (let same : table ≡ first = omega (arith, e) in same) (after_in_table table pos 0 cell items pos (zero-add pos) h))
after_in_tables table pos first cell (items ∷ lists) (suc k) e h =
    after_append table pos cell (by_position (change_at first) 0 items) (by_table change_at (suc first) lists)
    ∙ (ap (λ (one : Cell). after_changes table pos one (by_table change_at (suc first) lists))
    (after_elsewhere table pos first 0 cell items (λ same. omega (arith, e, same)))
    ∙ after_in_tables table pos (suc first) cell lists k (let same : suc first + k ≡ table = omega (arith, e) in same) h)

-- the changes of an entry leave at a position what its pair there leaves
pub after_pairs : (table pos : ℕ) (cell : Cell) (cells : List (List (Option Pair))) → StartsFrom cell (item_at cells table pos)
    → after_changes table pos cell (by_place change_at cells) ≡ covered (λ (pair : Pair). pair.after) cell (item_at cells table pos)
after_pairs table pos cell cells h = after_in_tables table pos 0 cell cells table (zero-add table) h
