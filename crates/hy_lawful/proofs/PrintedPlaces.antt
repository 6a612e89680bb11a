-- The places that a transaction wrote, and the entries that pass by them or lie in them.
use Rattle.std.proofs.Common.{◌≡◌, ℕ, zero, suc, ◌<◌, ◌≤◌, List, [], ◌∷◌, Option, None, Some, Bool, true}
use Rattle.std.proofs.Common.{false, is_some, length, map, refl, ap, sym, ◌∙◌}
use Rattle.std.proofs.Common.{arith, inl, inr}
use Rattle.std.specs.Prelude.{slice_get, ◌&&◌, ◌==◌, IfSome, IsTrue, IsFalse}
use Rattle.std.specs.List.{AllByRecursion, list_any}
use Rattle.std.specs.Option.{IsSomeAnd}
use Rattle.std.proofs.lemmas.Bool.{cases_Bool, and_parts, and_from, or_left, or_from, eqb-true, eq-eqb}
use Rattle.hy_value.specs.declared.change.Change.{Change}
use Rattle.hy_render.specs.declared.Place.{Place}
use Rattle.hy_machine.specs.declared.Setting.{Setting}
use Rattle.hy_machine.specs.States.{Begun}
use Rattle.hy_machine.specs.Tables.{Entry, Pair, Cell, Own}
use Rattle.hy_machine.specs.Positions.{item_at}
use Rattle.hy_machine.specs.Writes.{place_at, written}
use Rattle.hy_machine.specs.Validation.{committed_of, record_hit}
use Rattle.hy_lawful.specs.Passing.{has_place, ChangesLieApart, PassesBy, ChangesLieIn}
use Rattle.hy_lawful.proofs.PrintedChanges.{all_by_place, any_by_place, all_changes}
use Rattle.hy_lawful.proofs.PrintedTables.{pair_there}
use Rattle.hy_lawful.proofs.PassTables.{pair_at}
use Rattle.hy_lawful.proofs.PassStates.{Passed}

-- ---- places

none_any : {X : Type 0} (p : X → Bool) (xs : List X) → AllByRecursion (λ (x : X). p x ≡ false) xs → list_any p xs ≡ false
none_any p [] h = refl
none_any p (x ∷ xs) h = or_from (p x) (list_any p xs) h.0 (none_any p xs h.1)

-- where nothing was written there is no place
pub place_missing : (own : Own) (table pos : ℕ) → item_at own table pos ≡ None → has_place (written own) table pos ≡ false
place_missing own table pos none = none_any (λ (place : Place). place.table == table && place.pos == pos) (written own)
    (all_by_place (λ (place : Place). (place.table == table && place.pos == pos) ≡ false) place_at own (λ at other cell e. (elsewhere at other cell e, tt)))
  where
    elsewhere : (at other : ℕ) (cell : Cell) → item_at own at other ≡ Some cell → (at == table && other == pos) ≡ false
    elsewhere at other cell e = elim (cases_Bool (at == table && other == pos)) [
      | inr f ↦ f
      | inl t ↦
          let parts = and_parts (at == table) (other == pos) t in
          absurd (let never : None ≡ Some cell = sym none
          ∙ (ap (λ (n : ℕ). item_at own n pos) (sym (eqb-true at table parts.0))
          ∙ (ap (item_at own at) (sym (eqb-true other pos parts.1)) ∙ e)) in cc)
    ]

-- where something was written there is a place
pub place_found : (own : Own) (table pos : ℕ) → is_some (item_at own table pos) ≡ true → has_place (written own) table pos ≡ true
place_found own table pos h = by_item (item_at own table pos) refl h
  where
    by_item : (item : Option Cell) → item_at own table pos ≡ item → is_some item ≡ true → has_place (written own) table pos ≡ true
    by_item None e h = absurd cc
    by_item (Some cell) e h = any_by_place (λ (place : Place). place.table == table && place.pos == pos) place_at own table pos cell e
        (or_left (table == table && pos == pos) false (and_from (table == table) (pos == pos) (eq-eqb table table refl) (eq-eqb pos pos refl)))

-- ---- entries

mapped_if : {X Y : Type 0} (P : Y → Type 0) (f : X → Y) (xs : List X) (i : ℕ) → ((x : X) → slice_get xs i ≡ Some x → P (f x))
    → IfSome (slice_get (map f xs) i) P
mapped_if P f [] i h = tt
mapped_if P f (x ∷ xs) zero h = h x refl
mapped_if P f (x ∷ xs) (suc i) h = mapped_if P f xs i h

pub mapped_and : {X Y : Type 0} (P : Y → Type 0) (f : X → Y) (xs : List X) (i : ℕ) → i < length xs → ((x : X) → slice_get xs i ≡ Some x → P (f x))
    → IsSomeAnd (slice_get (map f xs) i) P
mapped_and P f [] i below h = absurd (omega (arith, below))
mapped_and P f (x ∷ xs) zero below h = h x refl
mapped_and P f (x ∷ xs) (suc i) below h = mapped_and P f xs i (omega (arith, below)) h

-- the entries before a transaction's place pass it by
pub pass_by : (setting : Setting) (order : List Entry) (begun : Begun) (rank : ℕ) → Passed setting order begun rank → (at : ℕ)
    → begun.prefix ≤ at → at < rank → IfSome (slice_get (map committed_of order) at) (PassesBy (written begun.own) begun.records)
pass_by setting order begun rank passed at from to =
    mapped_if (PassesBy (written begun.own) begun.records) committed_of order at (λ entry here. record {
      apart = all_changes (λ (change : Change). IsFalse (has_place (written begun.own) change.table change.pos)) entry.cells
          (λ table pos pair e some. place_missing begun.own table pos
          (passed.passes at from to table pos pair (pair_there order at entry here table pos ∙ e)).apart);
      missed = all_changes (λ (change : Change). record_hit begun.records change.table change.before change.after ≡ None) entry.cells
          (λ table pos pair e some. (passed.passes at from to table pos pair (pair_there order at entry here table pos ∙ e)).missed);
    })

-- an entry that does nothing where something was written changes none of it
pub lies_apart : (order : List Entry) (own : Own) (at : ℕ)
    → ((table pos : ℕ) → is_some (item_at own table pos) ≡ true → pair_at order at table pos ≡ None)
    → IfSome (slice_get (map committed_of order) at) (ChangesLieApart (written own))
lies_apart order own at clear =
    mapped_if (ChangesLieApart (written own)) committed_of order at (λ entry here.
    all_changes (λ (change : Change). IsFalse (has_place (written own) change.table change.pos)) entry.cells
    (λ table pos pair e some. place_missing own table pos (by_item table pos pair (pair_there order at entry here table pos ∙ e) (item_at own table pos) refl)))
  where
    by_item : (table pos : ℕ) (pair : Pair) → pair_at order at table pos ≡ Some pair → (item : Option Cell) → item_at own table pos ≡ item
        → item_at own table pos ≡ None
    by_item table pos pair e None i = i
    by_item table pos pair e (Some cell) i = absurd (let never : None ≡ Some pair = sym (clear table pos (ap is_some i)) ∙ e in cc)

-- the entry at its place changes what it wrote
pub lies_in : (setting : Setting) (order : List Entry) (begun : Begun) (rank : ℕ) → Passed setting order begun rank
    → IsSomeAnd (slice_get (map committed_of order) rank) (ChangesLieIn (written begun.own))
lies_in setting order begun rank passed =
    mapped_and (ChangesLieIn (written begun.own)) committed_of order rank passed.within (λ entry here.
    all_changes (λ (change : Change). IsTrue (has_place (written begun.own) change.table change.pos)) entry.cells
    (λ table pos pair e some. place_found begun.own table pos (passed.wrote table pos pair (pair_there order rank entry here table pos ∙ e))))
