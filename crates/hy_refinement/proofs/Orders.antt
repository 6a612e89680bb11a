-- The commit order: its last entry that does something, and positions that its entries don't write.
use Rattle.std.proofs.Common.{◌≡◌, ◌⊎◌, ℕ, zero, suc, ◌+◌, ◌-◌, ◌<◌, ◌≤◌, List, [], ◌∷◌, length, take, drop, get_or, Option, None, Some, Bool}
use Rattle.std.proofs.Common.{true, false, refl, ap, ◌∙◌, subst, arith, inl, inr, cond}
use Rattle.std.specs.Prelude.{slice_get, is_some}
use Rattle.std.specs.Option.{option_or}
use Rattle.std.proofs.lemmas.Bool.{cases_Bool}
use Rattle.std.proofs.lemmas.Option.{same_Some, slice_get-get_or}
use Rattle.hy_machine.specs.declared.Setting.{Setting}
use Rattle.hy_machine.specs.States.{State}
use Rattle.hy_machine.specs.Tables.{Entry, Pair, Cell, Tables, overlaid, covered, covered_tables, after_entry, history, opening_tables}
use Rattle.hy_machine.specs.Positions.{item_at, last_some}
use Rattle.hy_machine.specs.Sessions.{snapshot}
use Rattle.hy_machine.specs.Holding.{has_pair, changes_row, changer_at}

-- ---- lists

pub dropped_get : {A : Type 0} (n : ℕ) (xs : List A) (k : ℕ) → slice_get (drop n xs) k ≡ slice_get xs (n + k)
dropped_get zero xs k = ap (slice_get xs) (let e : k ≡ zero + k = omega arith in e)
dropped_get (suc n) [] k = refl
dropped_get (suc n) (x ∷ xs) k = dropped_get n xs k ∙ ap (slice_get (x ∷ xs)) (let e : suc (n + k) ≡ suc n + k = omega arith in e)

-- an element is the last that passes a test
pub record IsLastOf {A : Type 0} (test : A → Bool) (xs : List A) : Type 0 where
  pub rank : ℕ
  pub item : A
  pub stands : slice_get xs rank ≡ Some item
  pub passes : test item ≡ true
  pub last : (other : ℕ) (later : A) → rank < other → slice_get xs other ≡ Some later → test later ≡ false

-- none passes, or there is a last one
pub last_or_none : {A : Type 0} (test : A → Bool) (xs : List A)
    → ((k : ℕ) (x : A) → slice_get xs k ≡ Some x → test x ≡ false) ⊎ IsLastOf test xs
last_or_none test [] = inl (λ k x e. absurd cc)
last_or_none {A} test (x ∷ xs) = elim (last_or_none test xs) [
  | inr found ↦ inr (record { rank = suc found.rank; item = found.item; stands = found.stands; passes = found.passes; last = further found })
  | inl none ↦ elim (cases_Bool (test x)) [
    | inl yes' ↦ inr (record { rank = zero; item = x; stands = refl; passes = yes'; last = first none })
    | inr isnt ↦ inl (all isnt none)
  ]
]
  where
    further : (found : IsLastOf test xs) (other : ℕ) (later : A) → suc found.rank < other → slice_get (x ∷ xs) other ≡ Some later → test later ≡ false
    further found zero later less e = absurd (omega (arith, less))
    further found (suc other) later less e = found.last other later (omega (arith, less)) e

    first : ((k : ℕ) (y : A) → slice_get xs k ≡ Some y → test y ≡ false) → (other : ℕ) (later : A) → zero < other → slice_get (x ∷ xs) other ≡ Some later
        → test later ≡ false
    first none zero later less e = absurd (omega (arith, less))
    first none (suc other) later less e = none other later e

    all : test x ≡ false → ((k : ℕ) (y : A) → slice_get xs k ≡ Some y → test y ≡ false) → (k : ℕ) (y : A) → slice_get (x ∷ xs) k ≡ Some y → test y ≡ false
    all isnt none zero y e = subst (λ (z : A). test z ≡ false) (same_Some x y e) isnt
    all isnt none (suc k) y e = none k y e

-- where no element gives anything, nor does the last one
pub last_some_none : {A B : Type 0} (f : A → Option B) (xs : List A) → ((k : ℕ) (x : A) → slice_get xs k ≡ Some x → f x ≡ None) → last_some f xs ≡ None
last_some_none f [] none = refl
last_some_none f (x ∷ xs) none =
    ap (λ o. option_or o (f x)) (last_some_none f xs (λ k y e. none (suc k) y e)) ∙ none zero x refl

pub last_some_at : {A B : Type 0} (f : A → Option B) (xs : List A) (rank : ℕ) (item : A) (b : B) → slice_get xs rank ≡ Some item → f item ≡ Some b
    → ((other : ℕ) (later : A) → rank < other → slice_get xs other ≡ Some later → f later ≡ None) → last_some f xs ≡ Some b
last_some_at f [] rank item b e is none = absurd cc
last_some_at {A} {B} f (x ∷ xs) zero item b e is none =
    ap (λ o. option_or o (f x)) (last_some_none f xs (λ k y g. none (suc k) y (omega arith) g)) ∙ (ap f (same_Some x item e) ∙ is)
last_some_at {A} {B} f (x ∷ xs) (suc rank) item b e is none =
    ap (λ o. option_or o (f x)) (last_some_at f xs rank item b e is (λ other later less g. none (suc other) later (omega (arith, less)) g))

-- ---- positions that entries don't write

items_over : {B : Type 0} (f : B → Cell) (cells : List Cell) (others : List (Option B)) (pos : ℕ) → get_or others pos None ≡ None
    → get_or (overlaid (covered f) cells others) pos None ≡ get_or cells pos None
items_over f [] others pos e = refl
items_over f (cell ∷ cells) [] pos e = refl
items_over f (cell ∷ cells) (other ∷ others) zero e = ap (covered f cell) e
items_over f (cell ∷ cells) (other ∷ others) (suc pos) e = items_over f cells others pos e

pub tables_over : {B : Type 0} (f : B → Cell) (tables : Tables) (lists : List (List (Option B))) (table pos : ℕ) → item_at lists table pos ≡ None
    → item_at (covered_tables f tables lists) table pos ≡ item_at tables table pos
tables_over f [] lists table pos e = refl
tables_over f (cells ∷ tables) [] table pos e = refl
tables_over f (cells ∷ tables) (items ∷ lists) zero pos e = items_over f cells items pos e
tables_over f (cells ∷ tables) (items ∷ lists) (suc table) pos e = tables_over f tables lists table pos e

-- one more entry
pub history_next : (tables : Tables) (order : List Entry) (rank : ℕ) (entry : Entry) → slice_get order rank ≡ Some entry
    → history tables (take (suc rank) order) ≡ after_entry (history tables (take rank order)) entry
history_next tables [] rank entry e = absurd cc
history_next tables (first ∷ order) zero entry e = ap (after_entry tables) (same_Some first entry e)
history_next tables (first ∷ order) (suc rank) entry e = history_next (after_entry tables first) order rank entry e

no_pair : (o : Option Pair) → is_some o ≡ false → o ≡ None
no_pair None e = refl
no_pair (Some pair) e = absurd cc

still : (setting : Setting) (state : State) (table pos from more : ℕ) → from + more ≤ length state.order
    → ((rank : ℕ) (entry : Entry) → from ≤ rank → rank < from + more → slice_get state.order rank ≡ Some entry → has_pair table pos entry ≡ false)
    → item_at (snapshot setting state (from + more)) table pos ≡ item_at (snapshot setting state from) table pos
still setting state table pos from zero within none =
    ap (λ (n : ℕ). item_at (snapshot setting state n) table pos) (let e : from + zero ≡ from = omega arith in e)
still setting state table pos from (suc more) within none =
    let rank : ℕ = from + more in
    let below : rank < length state.order = omega (arith, within) in
    let entry : Entry = get_or state.order rank (record { label = record { session = 0; txn = 0 }; cells = [] }) in
    let stands : slice_get state.order rank ≡ Some entry = slice_get-get_or state.order rank
    (record { label = record { session = 0; txn = 0 }; cells = [] }) below in
    ap (λ (n : ℕ). item_at (snapshot setting state n) table pos) (let e : from + suc more ≡ suc rank = omega arith in e)
    ∙ (ap (λ (tables : Tables). item_at tables table pos) (history_next (opening_tables setting) state.order rank entry stands)
    ∙ (tables_over (λ (pair : Pair). pair.after) (snapshot setting state rank) entry.cells table pos
    (no_pair (item_at entry.cells table pos) (none rank entry (omega arith) (omega arith) stands))
    ∙ still setting state table pos from more (omega (arith, within)) (λ other earlier l m e. none other earlier l (omega (arith, m)) e)))

-- between two ranks with no pair the cell stays
pub cell_stays : (setting : Setting) (state : State) (table pos from to : ℕ) → from ≤ to → to ≤ length state.order
    → ((rank : ℕ) (entry : Entry) → from ≤ rank → rank < to → slice_get state.order rank ≡ Some entry → has_pair table pos entry ≡ false)
    → item_at (snapshot setting state to) table pos ≡ item_at (snapshot setting state from) table pos
cell_stays setting state table pos from to le within none =
    let e : to ≡ from + (to - from) = omega (arith, le) in
    ap (λ (n : ℕ). item_at (snapshot setting state n) table pos) e
    ∙ still setting state table pos from (to - from) (omega (arith, le, within)) (λ rank entry l m g. none rank entry l (omega (arith, m, le)) g)

-- ---- who changed a position

changer_by : (entry : Entry) (o : Option Pair) → is_some o ≡ false → (cond (changes_row o) (Some entry.label) None) ≡ None
changer_by entry None e = refl
changer_by entry (Some pair) e = absurd cc

pub changes_none : (table pos : ℕ) (entry : Entry) → has_pair table pos entry ≡ false → changer_at table pos entry ≡ None
changes_none table pos entry e = changer_by entry (item_at entry.cells table pos) e

pub changes_some : (table pos : ℕ) (entry : Entry) → changes_row (item_at entry.cells table pos) ≡ true → changer_at table pos entry ≡ Some entry.label
changes_some table pos entry e = ap (λ (b : Bool). cond b (Some entry.label) None) e
