-- What an UPDATE or a DELETE makes of positions, one after another.
use Rattle.std.proofs.Common.{◌≡◌, ℕ, List, [], ◌∷◌, Option, None, Some, Bool, true, false, length, refl, ap, sym, ◌∙◌, ◌⊎◌, inl, inr, subst}
use Rattle.std.specs.Prelude.{Result, Ok, Err, if◌then◌else◌}
use Rattle.std.specs.List.{AllByRecursion}
use Rattle.std.specs.Option.{option_map}
use Rattle.std.proofs.lemmas.List.{length-set}
use Rattle.hy_value.specs.declared.Value.{Value}
use Rattle.hy_bound.specs.declared.Assign.{Assign}
use Rattle.hy_bound.specs.declared.Range.{Range}
use Rattle.hy_bound.specs.declared.WriteKind.{WriteKind}
use Rattle.hy_bound.specs.declared.WriteKind.TheVariants as kind
use Rattle.hy_bound.specs.Assignment.{value_of, set_column, assigned_to, assigned}
use Rattle.hy_bound.specs.Condition.{Condition}
use Rattle.hy_bound.specs.Predicate.{truth_of, truth_at}
use Rattle.hy_bound.specs.declared.Ending.{Ending}
use Rattle.hy_machine.specs.Writes.{Write}
use Rattle.hy_machine.specs.Tables.{Cell}
use Rattle.hy_machine.specs.Visits.{new_cell, judged, verdict, and_write, sweep}
use Rattle.hy_replay.proofs.Cells.{HasWidth, OwnWidth}

abbrev fine : {A : Type 0} → A → Result A Ending
fine x = Ok x

same_ok : {A : Type 0} (x y : A) → fine x ≡ fine y → x ≡ y
same_ok {A = A} x y e = ap (ok_or x) e
  where
    ok_or : A → Result A Ending → A
    ok_or d (Ok a) = a
    ok_or d (Err cause) = d

-- ---- positions one after another

-- what is said of each write at a position holds of all
pub sweep_all : (P : Write → Type 0) (table : ℕ) (judge : ℕ → Result (Option Cell) Ending)
    → ((pos : ℕ) (cell : Cell) → judge pos ≡ Ok (Some cell) → P (record { table = table; pos = pos; cell = cell }))
    → (positions : List ℕ) (writes : List Write) → sweep table judge positions ≡ Ok writes → AllByRecursion P writes
sweep_all P table judge each [] writes e = subst (AllByRecursion P) (same_ok [] writes e) tt
sweep_all P table judge each (pos ∷ positions) writes e =
    by_verdict (judge pos) (sweep table judge positions) refl refl (sweep_all P table judge each positions) e
  where
    by_verdict : (given : Result (Option Cell) Ending) (rest : Result (List Write) Ending) → judge pos ≡ given → sweep table judge positions ≡ rest
        → ((writes : List Write) → sweep table judge positions ≡ Ok writes → AllByRecursion P writes)
        → and_write table pos given rest ≡ Ok writes → AllByRecursion P writes
    by_verdict (Err cause) rest j s ih e = absurd cc
    by_verdict (Ok cell) (Err cause) j s ih e = absurd cc
    by_verdict (Ok None) (Ok rest) j s ih e = ih writes (s ∙ e)
    by_verdict (Ok (Some cell)) (Ok rest) j s ih e =
        subst (AllByRecursion P) (same_ok (record { table = table; pos = pos; cell = cell } ∷ rest) writes e) (each pos cell j, ih rest s)

-- the same is written where the verdicts are the same, but at positions that aren't written and are left alone too
pub sweep_again : (table : ℕ) (judge other : ℕ → Result (Option Cell) Ending) (IsOpen : ℕ → ℕ → Type 0)
    → ((pos : ℕ) → (judge pos ≡ other pos) ⊎ (IsOpen table pos × (judge pos ≡ Ok None → other pos ≡ Ok None)))
    → (positions : List ℕ) (writes : List Write) → sweep table judge positions ≡ Ok writes
    → AllByRecursion (λ (write : Write). IsOpen write.table write.pos → ⊥) writes → sweep table other positions ≡ Ok writes
sweep_again table judge other IsOpen same [] writes e closed = e
sweep_again table judge other IsOpen same (pos ∷ positions) writes e closed =
    by_verdict (judge pos) (sweep table judge positions) refl refl (sweep_again table judge other IsOpen same positions) e
  where
    by_verdict : (given : Result (Option Cell) Ending) (rest : Result (List Write) Ending) → judge pos ≡ given → sweep table judge positions ≡ rest
        → ((writes : List Write) → sweep table judge positions ≡ Ok writes
        → AllByRecursion (λ (write : Write). IsOpen write.table write.pos → ⊥) writes → sweep table other positions ≡ Ok writes)
        → and_write table pos given rest ≡ Ok writes → and_write table pos (other pos) (sweep table other positions) ≡ Ok writes
    by_verdict (Err cause) rest j s ih e = absurd cc
    by_verdict (Ok cell) (Err cause) j s ih e = absurd cc
    by_verdict (Ok None) (Ok rest) j s ih e =
        let left : other pos ≡ Ok None = elim (same pos) [ inl q ↦ sym q ∙ j | inr u ↦ u.1 j ] in
        rw (left, ih writes (s ∙ e) closed) refl
    by_verdict (Ok (Some cell)) (Ok rest) j s ih e =
        let parts : AllByRecursion (λ (write : Write). IsOpen write.table write.pos → ⊥) (record { table = table; pos = pos; cell = cell } ∷ rest) =
        subst (AllByRecursion (λ (write : Write). IsOpen write.table write.pos → ⊥))
        (sym (same_ok (record { table = table; pos = pos; cell = cell } ∷ rest) writes e)) closed in
        let left : other pos ≡ Ok (Some cell) = elim (same pos) [ inl q ↦ sym q ∙ j | inr u ↦ absurd (parts.0 u.0) ] in
        rw (left, ih rest s parts.1) e

-- ---- verdicts

made_is : (b : Bool) (table pos : ℕ) (made : Option Cell) (new : Cell) → (if b then judged table pos None made else Ok None) ≡ Ok (Some new) → made ≡ Some new
made_is false table pos made new e = absurd cc
made_is true table pos None new e = absurd cc
made_is true table pos (Some cell) new e = same_ok (Some cell) (Some new) e

-- what is written is made of a row
pub made_of_row : (kind : WriteKind) (pred : Condition) (table pos : ℕ) (cell new : Cell) → verdict kind pred table pos None cell ≡ Ok (Some new)
    → (row : List Value) × ((cell ≡ Some row) × (new_cell kind row ≡ Some new))
made_of_row kind pred table pos None new e = absurd cc
made_of_row kind pred table pos (Some row) new e = (row, (refl, made_is (truth_of pred row) table pos (new_cell kind row) new e))

not_selected : (b : Bool) (table pos : ℕ) (made : Option Cell) → (if b then judged table pos None made else Ok None) ≡ Ok None → b ≡ false
not_selected false table pos made e = refl
not_selected true table pos None e = absurd cc
not_selected true table pos (Some cell) e = absurd cc

-- where nothing is written the condition isn't true of what is there
pub left_alone : (kind : WriteKind) (pred : Condition) (table pos : ℕ) (cell : Cell) → verdict kind pred table pos None cell ≡ Ok None
    → truth_at pred cell ≡ false
left_alone kind pred table pos None e = refl
left_alone kind pred table pos (Some row) e = not_selected (truth_of pred row) table pos (new_cell kind row) e

-- and the other way round
pub leaves_alone : (kind : WriteKind) (pred : Condition) (table pos : ℕ) (cell : Cell) → truth_at pred cell ≡ false
    → verdict kind pred table pos None cell ≡ Ok None
leaves_alone kind pred table pos None e = refl
leaves_alone kind pred table pos (Some row) e = rw e refl

-- ---- widths

put_width : (width : ℕ) (row : List Value) (column : ℕ) (value : Result Value Range) → length row ≡ width → HasWidth width (set_column row column value)
put_width width row column (Ok value) h = length-set row column value ∙ h
put_width width row column (Err range) h = tt

assigned_width : (width : ℕ) (sets : List Assign) (old : List Value) (made : Option (List Value)) → HasWidth width made
    → HasWidth width (assigned_to sets old made)
assigned_width width [] old None h = tt
assigned_width width [] old (Some new) h = h
assigned_width width (set ∷ sets) old None h = tt
assigned_width width (set ∷ sets) old (Some new) h =
    assigned_width width sets old (set_column new set.column (value_of set.value old)) (put_width width new set.column (value_of set.value old) h)

made_cell : (width : ℕ) (row : Option (List Value)) → HasWidth width row → OwnWidth width (option_map Some row)
made_cell width None h = tt
made_cell width (Some row) h = h

-- what a row becomes is as wide as it
pub new_width : (width : ℕ) (kind : WriteKind) (row : List Value) → length row ≡ width → OwnWidth width (new_cell kind row)
new_width width (kind.Set sets) row h = made_cell width (assigned sets row) (assigned_width width sets row (Some row) h)
new_width width kind.Delete row h = tt
