-- What a transaction may write: where nobody else holds a position, and no entry from its start on does anything there.
use Rattle.std.proofs.Common.{◌≡◌, ℕ, suc, ◌+◌, ◌-◌, ◌≤◌, List, [], ◌∷◌, Option, None, Some, Bool, true, false, not, is_some, Result, Ok, Err, zero, length}
use Rattle.std.proofs.Common.{drop, cond, refl, ap, sym, ◌∙◌, subst, arith, inl, inr, add-zero}
use Rattle.std.specs.Prelude.{find, ◌&&◌}
use Rattle.std.specs.List.{AllByRecursion, list_any}
use Rattle.std.specs.Option.{option_or}
use Rattle.std.proofs.lemmas.Bool.{cases_Bool, or_parts, not-true}
use Rattle.std.proofs.lemmas.Option.{same_Some}
use Rattle.hy_value.specs.declared.Value.{Value}
use Rattle.hy_bound.specs.declared.WriteKind.{WriteKind}
use Rattle.hy_bound.specs.Condition.{Condition}
use Rattle.hy_bound.specs.Predicate.{truth_of}
use Rattle.hy_stamp.specs.declared.Label.{Label}
use Rattle.hy_bound.specs.declared.Ending.{Ending}
use Rattle.hy_machine.specs.declared.Setting.{Setting}
use Rattle.hy_machine.specs.States.{State, Begun}
use Rattle.hy_machine.specs.Tables.{Entry, Pair, Cell, covered, opening_tables, positions_in}
use Rattle.hy_machine.specs.Writes.{Write}
use Rattle.hy_machine.specs.Positions.{item_at, last_some}
use Rattle.hy_machine.specs.Sessions.{session_at, view, snapshot}
use Rattle.hy_machine.specs.Holding.{holds, holder_from, changes_row, changer_at, opponent, is_held, has_pair, is_free}
use Rattle.hy_machine.specs.Visits.{new_cell, judged, verdict, and_write, sweep, verdict_at, swept}
use Rattle.hy_lawful.proofs.Backs.{SinceIsOwn}
use Rattle.hy_lawful.proofs.Fits.{FitsTables, Fits}
use Rattle.hy_lawful.proofs.PassTables.{cell_at, pair_at, tables_are, covered_at, AllFit, cell_next}
use Rattle.hy_lawful.proofs.PassHits.{from_dropped, dropped_pair, unchanged_by, or_none, none_there, unchanged, unwritten}
use Rattle.hy_lawful.proofs.PassHolds.{no_holder, unheld, held_by_none}
use Rattle.hy_lawful.proofs.PassStates.{EmptyAt, Clear, Befores, Passes}
use Rattle.hy_lawful.proofs.RunFree.{kept_since}

-- a transaction may write at a position, or has written there
pub record MayWrite (setting : Setting) (state : State) (number : ℕ) (begun : Begun) (table pos : ℕ) : Type 0 where
  pub clear : Clear state.order begun table pos
  pub alone : (other : ℕ) → (other ≡ number → ⊥) → holds setting table pos (session_at state other).now ≡ true → ⊥
  pub empty : EmptyAt setting state.order begun table pos

abbrev pub OwnMay : Setting → State → ℕ → Begun → Type 0
OwnMay setting state number begun = (table pos : ℕ) → is_some (item_at begun.own table pos) ≡ true → MayWrite setting state number begun table pos

abbrev pub AllMay : Setting → State → ℕ → Begun → List Write → Type 0
AllMay setting state number begun writes = AllByRecursion (λ (write : Write). MayWrite setting state number begun write.table write.pos) writes

-- a transaction that is at work: it may write where it has written, and what it wrote since a savepoint is its own
pub record IsAtWork (setting : Setting) (state : State) (number : ℕ) (begun : Begun) : Type 0 where
  pub fits : Fits setting state
  pub passes : Passes setting state
  pub own : FitsTables setting begun.own
  pub low : begun.low ≤ begun.prefix
  pub start : begun.prefix ≤ length state.order
  pub may : OwnMay setting state number begun
  pub since : SinceIsOwn setting begun

-- nobody is in the way where one may write
pub no_opponent : (setting : Setting) (state : State) (number : ℕ) (begun : Begun) (table pos : ℕ) → MayWrite setting state number begun table pos
    → opponent setting state number begun.prefix table pos ≡ None
no_opponent setting state number begun table pos m =
    ap (λ (holder : Option Label). option_or holder (last_some (changer_at table pos) (drop begun.prefix state.order)))
    (no_holder setting number table pos 0 state.sessions (λ i apart held. m.alone i (λ same. apart (omega (arith, same))) held))
    ∙ unchanged_by table pos (drop begun.prefix state.order)
    (λ i. dropped_pair begun.prefix state.order i table pos ∙ m.clear (begun.prefix + i) (omega arith))

-- ---- positions with a row

row_stays : (setting : Setting) (order : List Entry) → AllFit setting order → Befores setting order → (prefix table pos : ℕ) (row : List Value)
    → cell_at setting order prefix table pos ≡ Some row → ((rank : ℕ) → prefix ≤ rank → changes_row (pair_at order rank table pos) ≡ false)
    → (more : ℕ) → (cell_at setting order (prefix + more) table pos ≡ Some row) × (pair_at order (prefix + more) table pos ≡ None)
row_stays setting order fit befores prefix table pos row e f more = here more
  where
    no_pair : (rank : ℕ) → cell_at setting order rank table pos ≡ Some row → (item : Option Pair) → pair_at order rank table pos ≡ item
        → changes_row item ≡ false → item ≡ None
    no_pair rank there None p c = refl
    no_pair rank there (Some pair) p c =
        let before : is_some pair.before ≡ true = ap is_some (befores rank table pos pair p ∙ there) in
        absurd (cc (before, (or_parts (is_some pair.before) (is_some pair.after) c).0))

    at_row : (rank : ℕ) → prefix ≤ rank → cell_at setting order rank table pos ≡ Some row → pair_at order rank table pos ≡ None
    at_row rank h there = no_pair rank there (pair_at order rank table pos) refl (f rank h)

    here : (more : ℕ) → (cell_at setting order (prefix + more) table pos ≡ Some row) × (pair_at order (prefix + more) table pos ≡ None)
    here zero =
        let there : cell_at setting order (prefix + 0) table pos ≡ Some row = ap (λ (n : ℕ). cell_at setting order n table pos) (add-zero prefix) ∙ e in
        (there, at_row (prefix + 0) (omega arith) there)
    here (suc more) =
        let before = here more in
        let there : cell_at setting order (prefix + suc more) table pos ≡ Some row =
        ap (λ (n : ℕ). cell_at setting order n table pos) (let s : prefix + suc more ≡ suc (prefix + more) = omega arith in s)
        ∙ (cell_next setting order fit (prefix + more) table pos None before.1 ∙ before.0) in
        (there, at_row (prefix + suc more) (omega arith) there)

-- nobody is in the way of a write of a position with a row
row_may : (setting : Setting) (state : State) (number : ℕ) (begun : Begun) (table pos : ℕ) (row : List Value) → Fits setting state → Passes setting state
    → opponent setting state number begun.prefix table pos ≡ None → cell_at setting state.order begun.prefix table pos ≡ Some row
    → MayWrite setting state number begun table pos
row_may setting state number begun table pos row fits passes free e =
    let parts = or_none (holder_from setting number table pos 0 state.sessions) (last_some (changer_at table pos) (drop begun.prefix state.order)) free in
    record {
      clear = λ rank h. subst (λ (n : ℕ). pair_at state.order n table pos ≡ None)
          (let same : begun.prefix + (rank - begun.prefix) ≡ rank = omega (arith, h) in same)
          (row_stays setting state.order fits.cells passes.befores begun.prefix table pos row e
          (from_dropped (λ (item : Option Pair). changes_row item ≡ false) begun.prefix state.order table pos
          (unchanged table pos (drop begun.prefix state.order) parts.1)) (rank - begun.prefix)).1;
      alone = λ other apart. unheld setting number table pos 0 state.sessions parts.0 other (λ same. apart (omega (arith, same)));
      empty = λ none rank from to. absurd (let never : Some row ≡ None = sym e ∙ none in cc);
    }

seen_may : (setting : Setting) (state : State) (number : ℕ) (begun : Begun) (table pos : ℕ) (row : List Value) → IsAtWork setting state number begun
    → opponent setting state number begun.prefix table pos ≡ None → item_at (view setting state begun) table pos ≡ Some row
    → MayWrite setting state number begun table pos
seen_may setting state number begun table pos row w free e = by_own (item_at begun.own table pos) refl
  where
    by_own : (own : Option Cell) → item_at begun.own table pos ≡ own → MayWrite setting state number begun table pos
    by_own (Some cell) o = w.may table pos (ap is_some o)
    by_own None o = row_may setting state number begun table pos row w.fits w.passes free
        (sym (covered_at setting (λ (own : Cell). own) (snapshot setting state begun.prefix) begun.own
        (tables_are setting state.order begun.prefix) w.own table pos
        ∙ ap (covered (λ (own : Cell). own) (item_at (snapshot setting state begun.prefix) table pos)) o) ∙ e)

pub verdict_is : (kind : WriteKind) (pred : Condition) (table pos : ℕ) (other : Option Label) (cell : Cell) (new : Cell)
    → verdict kind pred table pos other cell ≡ Ok (Some new) → (row : List Value) × ((cell ≡ Some row) × (other ≡ None))
verdict_is kind pred table pos other None new e = absurd cc
verdict_is kind pred table pos other (Some row) new e = (row, (refl, by_truth (truth_of pred row) e))
  where
    by_other : (other : Option Label) (made : Option Cell) → judged table pos other made ≡ Ok (Some new) → other ≡ None
    by_other None made h = refl
    by_other (Some label) made h = absurd cc

    by_truth : (b : Bool) → cond b (judged table pos other (new_cell kind row)) (Ok None) ≡ Ok (Some new) → other ≡ None
    by_truth true h = by_other other (new_cell kind row) h
    by_truth false h = absurd cc

abbrev fine : {A : Type 0} → A → Result A Ending
fine x = Ok x

same_ok : {A : Type 0} (x y : A) → fine x ≡ fine y → x ≡ y
same_ok {A = A} x y e = ap (ok_or x) e
  where
    ok_or : A → Result A Ending → A
    ok_or d (Ok a) = a
    ok_or d (Err cause) = d

pub sweep_all : (P : Write → Type 0) (table : ℕ) (judge : ℕ → Result (Option Cell) Ending)
    → ((pos : ℕ) (cell : Cell) → judge pos ≡ Ok (Some cell) → P (record { table = table; pos = pos; cell = cell }))
    → (positions : List ℕ) (writes : List Write) → sweep table judge positions ≡ Ok writes → AllByRecursion P writes
sweep_all P table judge each [] writes e = subst (AllByRecursion P) (same_ok [] writes e) tt
sweep_all P table judge each (pos ∷ positions) writes e =
    by_verdict (judge pos) (sweep table judge positions) refl refl (sweep_all P table judge each positions) e
  where
    by_verdict : (given : Result (Option Cell) Ending) (rest : Result (List Write) Ending) → judge pos ≡ given → sweep table judge positions ≡ rest
        → ((writes : List Write) → sweep table judge positions ≡ Ok writes → AllByRecursion P writes)
        → and_write table pos given rest ≡ Ok writes → AllByRecursion P writes
    by_verdict (Err cause) rest j s ih e = absurd cc
    by_verdict (Ok cell) (Err cause) j s ih e = absurd cc
    by_verdict (Ok None) (Ok rest) j s ih e = ih writes (s ∙ e)
    by_verdict (Ok (Some cell)) (Ok rest) j s ih e =
        subst (AllByRecursion P) (same_ok (record { table = table; pos = pos; cell = cell } ∷ rest) writes e) (each pos cell j, ih rest s)

pub swept_may : (setting : Setting) (state : State) (number : ℕ) (begun : Begun) (kind : WriteKind) (pred : Condition) (table chunk : ℕ) (writes : List Write)
    → IsAtWork setting state number begun → swept setting state number begun kind pred table chunk ≡ Ok writes → AllMay setting state number begun writes
swept_may setting state number begun kind pred table chunk writes w e =
    sweep_all (λ (write : Write). MayWrite setting state number begun write.table write.pos) table
    (verdict_at setting state number begun kind pred table)
    (λ pos cell v.
    let is = verdict_is kind pred table pos (opponent setting state number begun.prefix table pos) (item_at (view setting state begun) table pos) cell v in
    seen_may setting state number begun table pos is.0 w is.1.1 is.1.0)
    (positions_in setting chunk) writes e

all_three : (a b c : Bool) → (a && b && c) ≡ true → (a ≡ true) × (b ≡ true) × (c ≡ true)
all_three true true true e = (refl, refl, refl)
all_three true true false e = absurd cc
all_three true false c e = absurd cc
all_three false b c e = absurd cc

pub found_is : (p : ℕ → Bool) (xs : List ℕ) (x : ℕ) → find p xs ≡ Some x → p x ≡ true
found_is p [] x e = absurd cc
found_is p (one ∷ xs) x e = elim (cases_Bool (p one)) [
  | inl t ↦ ap p (sym (same_Some one x (ap (λ b. cond b (Some one) (find p xs)) (sym t) ∙ e))) ∙ t
  | inr f ↦ found_is p xs x (ap (λ b. cond b (Some one) (find p xs)) (sym f) ∙ e)
]

-- a free position has no row from the watermark on
pub free_empty : (setting : Setting) (state : State) (begun : Begun) (table pos : ℕ) → is_free setting state begun table pos ≡ true
    → (rank : ℕ) → begun.low ≤ rank → cell_at setting state.order rank table pos ≡ None
free_empty setting state begun table pos e rank from =
    let parts = all_three (not (is_held setting state table pos)) (not (is_some (item_at (snapshot setting state begun.low) table pos)))
    (not (list_any (has_pair table pos) (drop begun.low state.order))) e in
    kept_since (opening_tables setting) state.order begun.low rank table pos from
    (not-true (list_any (has_pair table pos) (drop begun.low state.order)) parts.2)
    ∙ none_there (item_at (snapshot setting state begun.low) table pos)
    (not-true (is_some (item_at (snapshot setting state begun.low) table pos)) parts.1)

-- it may be written
pub free_may : (setting : Setting) (state : State) (number : ℕ) (begun : Begun) (table pos : ℕ) → begun.low ≤ begun.prefix
    → is_free setting state begun table pos ≡ true → MayWrite setting state number begun table pos
free_may setting state number begun table pos low e =
    let parts = all_three (not (is_held setting state table pos)) (not (is_some (item_at (snapshot setting state begun.low) table pos)))
    (not (list_any (has_pair table pos) (drop begun.low state.order))) e in
    record {
      clear = λ rank h. from_dropped (λ (item : Option Pair). item ≡ None) begun.low state.order table pos
          (unwritten table pos (drop begun.low state.order) (not-true (list_any (has_pair table pos) (drop begun.low state.order)) parts.2))
          rank (omega (arith, low, h));
      alone = λ other apart. held_by_none setting table pos state.sessions (not-true (is_held setting state table pos) parts.0) other;
      empty = λ none rank from to. free_empty setting state begun table pos e rank from;
    }
