-- The order of notes.
use Rattle.std.proofs.Common.{◌≡◌, ℕ, zero, suc, ◌<◌, Bool, true, false, List, [], ◌∷◌, length, get_or, refl, sym, ap, ◌∙◌, arith, subst, inl, inr}
use Rattle.std.specs.Prelude.{◌==◌, ◌&&◌}
use Rattle.std.specs.List.{AllByRecursion}
use Rattle.std.specs.List.Sorted.{IsPartitionedBy}
use Rattle.std.specs.Cmp.{IsTotalOrder, then_total, on_total, tied_itself, ranks}
use Rattle.std.specs.Ordering.{ordering_then, nat_cmp, is_lt, MatchOrdering}
use Rattle.std.specs.declared.cmp.Ordering.{Ordering}
use Rattle.std.specs.declared.cmp.Ordering.TheVariants.{Less, Equal, Greater}
use Rattle.std.proofs.lemmas.Bool.{cases_eq, eq-eqb, eqb-true, and_parts}
use Rattle.std.proofs.lemmas.Cmp.{nat_cmp_total}
use Rattle.hy_value.specs.declared.change.Change.{Change}
use Rattle.hy_notes.specs.Notes.{order_of, Ascends, below}

abbrev pub note_cmp : Change → Change → Ordering
note_cmp note other = order_of note other.table other.pos

pub notes_total : IsTotalOrder note_cmp
notes_total = then_total (on_total (λ (n : Change). n.table) nat_cmp_total) (on_total (λ (n : Change). n.pos) nat_cmp_total)

pub lt_is : (o : Ordering) → is_lt o ≡ true → o ≡ Less
lt_is Less h = refl
lt_is Equal h = absurd (cc)
lt_is Greater h = absurd (cc)

numbers_tie : (m n : ℕ) → nat_cmp m n ≡ Equal → m ≡ n
numbers_tie m n h = subst (λ (o : Ordering). MatchOrdering o (m < n) (m ≡ n) (n < m)) h (ranks m n)

both_equal : (o p : Ordering) → ordering_then o p ≡ Equal → (o ≡ Equal) × (p ≡ Equal)
both_equal Less p h = absurd (cc)
both_equal Equal p h = (refl, h)
both_equal Greater p h = absurd (cc)

pub same_place : (note : Change) (table pos : ℕ) → order_of note table pos ≡ Equal → (note.table ≡ table) × (note.pos ≡ pos)
same_place note table pos h =
    let parts = both_equal (nat_cmp note.table table) (nat_cmp note.pos pos) h in
    (numbers_tie note.table table parts.0, numbers_tie note.pos pos parts.1)

-- a note of a position
abbrev pub at : Change → ℕ → ℕ → Bool
at note table pos = note.table == table && note.pos == pos

both_true : (x y : Bool) → x ≡ true → y ≡ true → (x && y) ≡ true
both_true true y h k = k
both_true false y h k = h

pub at_place : (note : Change) (table pos : ℕ) → note.table ≡ table → note.pos ≡ pos → at note table pos ≡ true
at_place note table pos h k = both_true (note.table == table) (note.pos == pos) (eq-eqb note.table table h) (eq-eqb note.pos pos k)

pub at_is : (note : Change) (table pos : ℕ) → at note table pos ≡ true → (note.table ≡ table) × (note.pos ≡ pos)
at_is note table pos h =
    let parts = and_parts (note.table == table) (note.pos == pos) h in
    (eqb-true note.table table parts.0, eqb-true note.pos pos parts.1)

tie_at : (note other : Change) (table pos : ℕ) → at note table pos ≡ true → at other table pos ≡ true → note_cmp note other ≡ Equal
tie_at note other table pos h k =
    let a = at_is note table pos h in
    let b = at_is other table pos k in
    ap (λ (p : ℕ × ℕ). ordering_then (nat_cmp p.0 other.table) (nat_cmp p.1 other.pos)) (λ i. ((a.0 ∙ sym b.0) i, (a.1 ∙ sym b.1) i)) ∙ tied_itself notes_total other

not_true : (b : Bool) → (b ≡ true → ⊥) → b ≡ false
not_true true h = absurd (h refl)
not_true false h = refl

-- of two notes of different positions at most one is of this one
pub apart_less : (note other : Change) (table pos : ℕ) → note_cmp note other ≡ Less → at note table pos ≡ true → at other table pos ≡ false
apart_less note other table pos less h = not_true (at other table pos) (λ k. absurd (let e = tie_at note other table pos h k in cc))

pub apart_more : (note other : Change) (table pos : ℕ) → note_cmp note other ≡ Less → at other table pos ≡ true → at note table pos ≡ false
apart_more note other table pos less h = not_true (at note table pos) (λ k. absurd (let e = tie_at note other table pos k h in cc))

all_at : (P : Change → Type 0) (xs : List Change) (k : ℕ) (d : Change) → AllByRecursion P xs → k < length xs → P (get_or xs k d)
all_at P [] k d all l = absurd (omega arith)
all_at P (x ∷ xs) zero d all l = all.0
all_at P (x ∷ xs) (suc k) d all l = all_at P xs k d all.1 (omega arith)

at_two : (xs : List Change) (i j : ℕ) (d : Change) → Ascends xs → i < j → j < length xs → note_cmp (get_or xs i d) (get_or xs j d) ≡ Less
at_two [] i j d up l m = absurd (omega arith)
at_two (x ∷ xs) i zero d up l m = absurd (omega arith)
at_two (x ∷ xs) zero (suc j) d up l m = all_at (λ later. note_cmp x later ≡ Less) xs j d up.0 (omega arith)
at_two (x ∷ xs) (suc i) (suc j) d up l m = at_two xs i j d up.1 (omega arith) (omega arith)

-- notes below a position come first
pub parted : (table pos : ℕ) (xs : List Change) → Ascends xs → IsPartitionedBy (below table pos) xs
parted table pos xs up i j d le l h =
    elim (cases_eq i j) [
      | inl same ↦ subst (λ (k : ℕ). below table pos (get_or xs k d) ≡ true) (sym same) h
      | inr other ↦
          let target : Change = record d { table = table; pos = pos } in
          ap is_lt (notes_total.trans (get_or xs i d) (get_or xs j d) target (at_two xs i j d up (omega (arith, le, other)) l) (lt_is (order_of (get_or xs j d) table pos) h))
    ]
