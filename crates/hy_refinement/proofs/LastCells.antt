-- What the last writer of a position leaves there.
use Rattle.std.proofs.Common.{◌≡◌, ℕ, zero, suc, ◌<◌, List, [], ◌∷◌, length, take, get_or, Option, None, Some, Bool, true}
use Rattle.std.proofs.Common.{false, refl, sym, ap, ◌∙◌, arith, inl, inr, cond}
use Rattle.std.specs.Prelude.{slice_get, is_some, ◌||◌}
use Rattle.std.specs.List.{list_any}
use Rattle.std.proofs.lemmas.Bool.{cases_Bool, or_left, or_right}
use Rattle.std.proofs.lemmas.Option.{same_Some, slice_get_within}
use Rattle.hy_journal.specs.declared.Entry.{Entry as Noted}
use Rattle.hy_machine.specs.declared.Setting.{Setting}
use Rattle.hy_machine.specs.States.{State}
use Rattle.hy_machine.specs.Tables.{Entry, Pair, Cell, Tables, overlaid, covered, covered_tables, after_entry, history, opening_tables}
use Rattle.hy_machine.specs.Positions.{item_at}
use Rattle.hy_machine.specs.Sessions.{snapshot}
use Rattle.hy_machine.specs.Holding.{has_pair}
use Rattle.hy_refinement.specs.Numbers.{EntriesShow, noted}
use Rattle.hy_refinement.specs.Places.{time_left, emptied_at}
use Rattle.hy_refinement.specs.Free.{HasPosition}
use Rattle.hy_refinement.proofs.Orders.{IsLastOf, history_next, cell_stays}

-- ---- tests of a list

pub any_at : {A : Type 0} (test : A → Bool) (xs : List A) → list_any test xs ≡ true → (k : ℕ) × ((x : A) × ((slice_get xs k ≡ Some x) × (test x ≡ true)))
any_at test [] e = absurd cc
any_at test (x ∷ xs) e = elim (cases_Bool (test x)) [
  | inl here ↦ (zero, (x, (refl, here)))
  | inr not_here ↦
      let later = any_at test xs (sym (ap (λ (b : Bool). b || list_any test xs) not_here) ∙ e) in
      (suc later.0, (later.1.0, later.1.1))
]

pub any_true : {A : Type 0} (test : A → Bool) (xs : List A) (k : ℕ) (x : A) → slice_get xs k ≡ Some x → test x ≡ true → list_any test xs ≡ true
any_true test [] k x e t = absurd cc
any_true {A} test (y ∷ xs) zero x e t = or_left (test y) (list_any test xs) (ap test (same_Some y x e) ∙ t)
any_true test (y ∷ xs) (suc k) x e t = or_right (test y) (list_any test xs) (any_true test xs k x e t)

pub any_false : {A : Type 0} (test : A → Bool) (xs : List A) → ((k : ℕ) (x : A) → slice_get xs k ≡ Some x → test x ≡ false) → list_any test xs ≡ false
any_false test [] none = refl
any_false test (x ∷ xs) none =
    ap (λ (b : Bool). b || list_any test xs) (none zero x refl) ∙ any_false test xs (λ k y e. none (suc k) y e)

pub taken_get : {A : Type 0} (n : ℕ) (xs : List A) (k : ℕ) → k < n → slice_get (take n xs) k ≡ slice_get xs k
taken_get zero xs k less = absurd (omega (arith, less))
taken_get (suc n) [] k less = refl
taken_get (suc n) (x ∷ xs) zero less = refl
taken_get (suc n) (x ∷ xs) (suc k) less = taken_get n xs k (omega (arith, less))

pub taken_below : {A : Type 0} (n : ℕ) (xs : List A) (k : ℕ) (x : A) → slice_get (take n xs) k ≡ Some x → k < n
taken_below zero xs k x e = absurd cc
taken_below (suc n) [] k x e = absurd cc
taken_below (suc n) (y ∷ xs) zero x e = omega arith
taken_below (suc n) (y ∷ xs) (suc k) x e = omega (arith, taken_below n xs k x e)

-- ---- tables keep their positions

cells_length : {B : Type 0} (f : B → Cell) (cells : List Cell) (others : List (Option B)) → length (overlaid (covered f) cells others) ≡ length cells
cells_length f [] others = refl
cells_length f (cell ∷ cells) [] = refl
cells_length f (cell ∷ cells) (other ∷ others) = let e = cells_length f cells others in omega (arith, e)

tables_length : {B : Type 0} (f : B → Cell) (tables : Tables) (lists : List (List (Option B))) → length (covered_tables f tables lists) ≡ length tables
tables_length f [] lists = refl
tables_length f (cells ∷ tables) [] = refl
tables_length f (cells ∷ tables) (items ∷ lists) = let e = tables_length f tables lists in omega (arith, e)

pub row_length : {B : Type 0} (f : B → Cell) (tables : Tables) (lists : List (List (Option B))) (table : ℕ)
    → length (get_or (covered_tables f tables lists) table []) ≡ length (get_or tables table [])
row_length f [] lists table = refl
row_length f (cells ∷ tables) [] table = refl
row_length f (cells ∷ tables) (items ∷ lists) zero = cells_length f cells items
row_length f (cells ∷ tables) (items ∷ lists) (suc table) = row_length f tables lists table

stays_after : (tables : Tables) (entry : Entry) (table pos : ℕ) → HasPosition tables table pos → HasPosition (after_entry tables entry) table pos
stays_after tables entry table pos has = record {
  table_below = let l = tables_length (λ (pair : Pair). pair.after) tables entry.cells in let h = has.table_below in omega (arith, l, h);
  pos_below = let l = row_length (λ (pair : Pair). pair.after) tables entry.cells table in let h = has.pos_below in omega (arith, l, h);
}

pub stays_along : (tables : Tables) (order : List Entry) (table pos : ℕ) → HasPosition tables table pos → HasPosition (history tables order) table pos
stays_along tables [] table pos has = has
stays_along tables (entry ∷ order) table pos has = stays_along (after_entry tables entry) order table pos (stays_after tables entry table pos has)

-- ---- the cell that a writer leaves

item_over : {B : Type 0} (f : B → Cell) (cells : List Cell) (others : List (Option B)) (pos : ℕ) (item : B) → get_or others pos None ≡ Some item
    → pos < length cells
    → get_or (overlaid (covered f) cells others) pos None ≡ f item
item_over f [] others pos item e below = absurd (omega (arith, below))
item_over f (cell ∷ cells) [] pos item e below = absurd cc
item_over f (cell ∷ cells) (other ∷ others) zero item e below = ap (covered f cell) e
item_over f (cell ∷ cells) (other ∷ others) (suc pos) item e below = item_over f cells others pos item e (omega (arith, below))

pub pair_over : {B : Type 0} (f : B → Cell) (tables : Tables) (lists : List (List (Option B))) (table pos : ℕ) (item : B) → item_at lists table pos ≡ Some item
    → table < length tables → pos < length (get_or tables table []) → item_at (covered_tables f tables lists) table pos ≡ f item
pair_over f [] lists table pos item e t p = absurd (omega (arith, t))
pair_over f (cells ∷ tables) [] table pos item e t p = absurd cc
pair_over f (cells ∷ tables) (items ∷ lists) zero pos item e t p = item_over f cells items pos item e p
pair_over f (cells ∷ tables) (items ∷ lists) (suc table) pos item e t p = pair_over f tables lists table pos item e (omega (arith, t)) p

-- the last writer
pub record Leaves (setting : Setting) (state : State) (table pos : ℕ) (entry : Entry) : Type 0 where
  pub pair : Pair
  pub pair_is : item_at entry.cells table pos ≡ Some pair
  pub after : item_at (snapshot setting state (length state.order)) table pos ≡ pair.after

pair_of_it : (o : Option Pair) → is_some o ≡ true → (pair : Pair) × (o ≡ Some pair)
pair_of_it None e = absurd cc
pair_of_it (Some pair) e = (pair, refl)

pub leaves : (setting : Setting) (state : State) (table pos : ℕ) → HasPosition (opening_tables setting) table pos
    → (last : IsLastOf (has_pair table pos) state.order) → Leaves setting state table pos last.item
leaves setting state table pos has last =
    let found = pair_of_it (item_at last.item.cells table pos) last.passes in
    let within = slice_get_within state.order last.rank last.item last.stands in
    let there = stays_along (opening_tables setting) (take last.rank state.order) table pos has in
    record {
      pair = found.0;
      pair_is = found.1;
      after =
          cell_stays setting state table pos (suc last.rank) (length state.order) (omega (arith, within)) (omega arith)
          (λ rank entry l m e. last.last rank entry (omega (arith, l)) e)
          ∙ (ap (λ (tables : Tables). item_at tables table pos) (history_next (opening_tables setting) state.order last.rank last.item last.stands)
          ∙ pair_over (λ (pair : Pair). pair.after) (snapshot setting state last.rank) last.item.cells table pos found.0 found.1 there.table_below there.pos_below);
    }

-- ---- when a position was emptied

-- an entry that leaves no row empties the position at its time
pub emptied : (order : List Entry) (entries : List Noted) (table pos rank : ℕ) (entered : Entry) (entry : Noted) (pair : Pair) → EntriesShow order entries
    → slice_get order rank ≡ Some entered → slice_get entries rank ≡ Some entry → item_at entered.cells table pos ≡ Some pair → pair.after ≡ None
    → emptied_at table pos entry ≡ Some entry.time
emptied order entries table pos rank entered entry pair shows stands has is gone =
    ap (time_left entry.time) ((shows.each rank entered entry stands has).notes table pos ∙ ap noted is)
    ∙ ap (λ (after : Cell). cond (is_some after) None (Some entry.time)) gone

-- one that has no pair there does nothing
pub not_emptied : (order : List Entry) (entries : List Noted) (table pos rank : ℕ) (entered : Entry) (entry : Noted) → EntriesShow order entries
    → slice_get order rank ≡ Some entered → slice_get entries rank ≡ Some entry → has_pair table pos entered ≡ false → emptied_at table pos entry ≡ None
not_emptied order entries table pos rank entered entry shows stands has e =
    ap (time_left entry.time) ((shows.each rank entered entry stands has).notes table pos ∙ ap noted (none (item_at entered.cells table pos) e))
  where
    none : (o : Option Pair) → is_some o ≡ false → o ≡ None
    none None e = refl
    none (Some pair) e = absurd cc
