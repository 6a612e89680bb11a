-- The stamps of all positions, before and after a visit.
use Rattle.std.proofs.Common.{◌≡◌, ℕ, zero, suc, ◌+◌, ◌≤◌, Bool, true, false, cond, List, [], ◌∷◌, length, Option, None, Some, Result, Ok, Err, inl}
use Rattle.std.proofs.Common.{inr, refl, sym, ap, subst, arith}
use Rattle.std.specs.Prelude.{slice_set, replicate}
use Rattle.std.specs.List.{AllByRecursion}
use Rattle.std.proofs.lemmas.Bool.{cases_Bool}
use Rattle.hy_value.specs.declared.Kind.{Kind}
use Rattle.hy_stamp.specs.declared.Label.{Label}
use Rattle.hy_stamp.specs.declared.Stamp.{Stamp}
use Rattle.hy_stamp.specs.declared.Viewer.{Viewer}
use Rattle.hy_prune.specs.declared.Cover.{Cover}
use Rattle.hy_bound.specs.Condition.{Condition}
use Rattle.hy_bound.specs.Predicate.{truth_of}
use Rattle.hy_bound.specs.declared.Assign.{Assign}
use Rattle.hy_value.specs.declared.change.Change.{Change}
use Rattle.hy_chain.specs.Chains.{Undo, Falls, newest, rival}
use Rattle.hy_chain.specs.Pruning.{pruned, stamps_of, KeepsStamps, Shrinks}
use Rattle.hy_undo.specs.declared.refusal.Refusal.{Refusal}
use Rattle.hy_undo.specs.Images.{Image, both}
use Rattle.hy_undo.specs.Places.{Place, Cell, sees, stamps}
use Rattle.hy_undo.specs.Chunks.{Everywhere, AtOwn, StampedPlace, Undone, Pruned, is_own}
use Rattle.hy_undo.specs.Sweeps.{swept, and_new, verdict, judged, new_cell, AllWritten}
use Rattle.hy_chunk.specs.Fields.{blank_place, nth}
use Rattle.hy_chunk.specs.Writes.{IsDone}
use Rattle.hy_engine_tests.specs.Ready.{AreInOrder, PlacesInOrder}
use Rattle.hy_engine_tests.proofs.Orders.{in_order_later, chain_falls, of_falls, committed, taken_back, written, fewer}

pub places_later : (n m : ℕ) (places : List Place) → n ≤ m → PlacesInOrder n places → PlacesInOrder m places
places_later n m [] le all = tt
places_later n m (p ∷ places) le all = (in_order_later n m (stamps p) le all.0, places_later n m places le all.1)

pub places_fall : (next : ℕ) (places : List Place) → PlacesInOrder next places → AllByRecursion (λ place. Falls place.chain) places
places_fall next [] all = tt
places_fall next (p ∷ places) all = (chain_falls next p.chain all.0, places_fall next places all.1)

pub none_yet : (next : ℕ) (kinds : List Kind) (count : ℕ) → PlacesInOrder next (replicate count (blank_place kinds))
none_yet next kinds zero = tt
none_yet next kinds (suc count) = (tt, none_yet next kinds count)

pub put_in_order : (next : ℕ) (places : List Place) (k : ℕ) (p : Place) → PlacesInOrder next places → AreInOrder next (stamps p)
    → PlacesInOrder next (slice_set places k p)
put_in_order next [] k p all here = tt
put_in_order next (q ∷ places) zero p all here = (here, all.1)
put_in_order next (q ∷ places) (suc k) p all here = (all.0, put_in_order next places k p all.1 here)

pub nth_in_order : (next : ℕ) (places : List Place) (k : ℕ) → PlacesInOrder next places → AreInOrder next (stamps (nth places k))
nth_in_order next [] k all = tt
nth_in_order next (q ∷ places) zero all = all.0
nth_in_order next (q ∷ places) (suc k) all = nth_in_order next places k all.1

-- ---- a visit of each position

pub everywhere_in_order : (n m : ℕ) (does : Place → Place → Type 0) → ((old new : Place) → does old new → AreInOrder n (stamps old) → AreInOrder m (stamps new))
    → (olds news : List Place) → Everywhere does olds news → PlacesInOrder n olds → PlacesInOrder m news
everywhere_in_order n m does each [] [] all ordered = tt
everywhere_in_order n m does each [] (new ∷ news) all ordered = absurd all
everywhere_in_order n m does each (old ∷ olds) [] all ordered = absurd all
everywhere_in_order n m does each (old ∷ olds) (new ∷ news) all ordered =
    (each old new all.0 ordered.0, everywhere_in_order n m does each olds news all.1 ordered.1)

pub everywhere_many : (does : Place → Place → Type 0) (olds news : List Place) → Everywhere does olds news → length news ≡ length olds
everywhere_many does [] [] all = refl
everywhere_many does [] (new ∷ news) all = absurd all
everywhere_many does (old ∷ olds) [] all = absurd all
everywhere_many does (old ∷ olds) (new ∷ news) all = ap (λ (n : ℕ). suc n) (everywhere_many does olds news all.1)

own_stamped : (id next : ℕ) (chain : List (Undo Image)) (now : List Stamp) → is_own id (newest chain) ≡ true
    → ((stamp : Stamp) (rest : List Stamp) → stamps_of chain ≡ stamp ∷ rest → now ≡ record { owner = stamp.owner; mark = next } ∷ rest)
    → AreInOrder next (stamps_of chain) → AreInOrder (next + 1) now
own_stamped id next [] now own is all = absurd (cc)
own_stamped id next (undo ∷ chain) now own is all =
    let new : Stamp = record { owner = undo.stamp.owner; mark = next } in
    subst (AreInOrder (next + 1)) (sym (is undo.stamp (stamps_of chain) refl)) (committed next undo.stamp new (stamps_of chain) refl all)

pub stamped_in_order : (id next : ℕ) (old new : Place) → AtOwn id (StampedPlace id next) old new → AreInOrder next (stamps old)
    → AreInOrder (next + 1) (stamps new)
stamped_in_order id next old new at all = elim (cases_Bool (is_own id (newest old.chain))) [
  | inl own ↦ own_stamped id next old.chain (stamps new) own (at.own own).stamps all
  | inr other ↦ subst (λ (p : Place). AreInOrder (next + 1) (stamps p)) (sym (at.others other)) (in_order_later next (next + 1) (stamps old) (omega arith) all)
]

pub undone_in_order : (id next : ℕ) (old new : Place) → AtOwn id (Undone id) old new → AreInOrder next (stamps old) → AreInOrder next (stamps new)
undone_in_order id next old new at all = elim (cases_Bool (is_own id (newest old.chain))) [
  | inl own ↦ subst (AreInOrder next) (sym (at.own own).stamps) (taken_back next (stamps old) all)
  | inr other ↦ subst (λ (p : Place). AreInOrder next (stamps p)) (sym (at.others other)) all
]

pub pruned_in_order : Shrinks both → KeepsStamps both → (cover : Cover) (next : ℕ) (old new : Place) → Pruned cover old new
    → AreInOrder next (stamps old) → AreInOrder next (stamps new)
pruned_in_order shrinks keeps cover next old new p all =
    let left : List (Undo Image) = pruned both cover old.chain in
    subst (AreInOrder next) (sym p.stamps) (fewer next (stamps old) (stamps_of left) all
    (of_falls left (shrinks cover old.chain (chain_falls next old.chain all)).1) (λ stamp c. keeps.made_none cover old.chain stamp c))

-- ---- an UPDATE or a DELETE

both_ok : (v : Result (Option Cell) Refusal) (rest : Result (List (Option Cell)) Refusal) (cell : Option Cell) (cells : List (Option Cell))
    → and_new v rest ≡ Ok (cell ∷ cells)
    → (v ≡ Ok cell) × (rest ≡ Ok cells)
both_ok (Err refusal) rest cell cells e = absurd (cc)
both_ok (Ok x) (Err refusal) cell cells e = absurd (cc)
both_ok (Ok x) (Ok xs) cell cells e = (cc, cc)

without_rival : (sets : Option (List Assign)) (pred : Condition) (pos : ℕ) (other : Option Label) (cell new : Cell)
    → verdict sets pred pos other cell ≡ Ok (Some new) → other ≡ None
without_rival sets pred pos other None new e = absurd (cc)
without_rival sets pred pos None (Some row) new e = refl
without_rival sets pred pos (Some label) (Some row) new e =
    elim (truth_of pred row) as (λ (b : Bool). cond b (judged pos (Some label) (new_cell sets row)) (Ok None) ≡ Ok (Some new) → Some label ≡ None) [
      | true ↦ λ f. absurd (cc)
      | false ↦ λ f. absurd (cc)
    ] e

module _ (sets : Option (List Assign)) (pred : Condition) (viewer : Viewer) (label : Label) (next : ℕ) (start : viewer.start ≤ next)
    (id : next ≤ viewer.id) where
  all_written : (pos : ℕ) (olds : List Place) (cells : List (Option Cell)) (news : List Place) → swept sets pred viewer pos olds ≡ Ok cells
      → AllWritten viewer label cells olds news
      → PlacesInOrder next olds → PlacesInOrder next news
  all_written pos [] [] [] e w all = tt
  all_written pos [] [] (new ∷ news) e w all = absurd w
  all_written pos [] (cell ∷ cells) news e w all = absurd w
  all_written pos (old ∷ olds) [] news e w all = absurd w
  all_written pos (old ∷ olds) (None ∷ cells) [] e w all = absurd w
  all_written pos (old ∷ olds) (Some cell ∷ cells) [] e w all = absurd w
  all_written pos (old ∷ olds) (None ∷ cells) (new ∷ news) e w all =
      let parts = both_ok (verdict sets pred pos (rival viewer old.chain) (sees viewer old)) (swept sets pred viewer (suc pos) olds) None cells e in
      (subst (λ (p : Place). AreInOrder next (stamps p)) (sym w.0) all.0, all_written (suc pos) olds cells news parts.1 w.1 all.1)
  all_written pos (old ∷ olds) (Some cell ∷ cells) (new ∷ news) e w all =
      let parts = both_ok (verdict sets pred pos (rival viewer old.chain) (sees viewer old)) (swept sets pred viewer (suc pos) olds) (Some cell) cells e in
      let free : rival viewer old.chain ≡ None = without_rival sets pred pos (rival viewer old.chain) (sees viewer old) cell parts.0 in (
        subst (AreInOrder next) (sym w.0.stamps) (written next viewer label old.chain start id free all.0),
        all_written (suc pos) olds cells news
            parts.1 w.1 all.1,
      )

  pub done_in_order : (table first : ℕ) (olds news : List Place) (notes now : List Change) (count : ℕ)
      → IsDone viewer label table first (swept sets pred viewer first olds) olds news notes now count → PlacesInOrder next olds → PlacesInOrder next news
  done_in_order table first olds news notes now count done all = by_result (swept sets pred viewer first olds) refl done
    where
      by_result : (r : Result (List (Option Cell)) Refusal) → swept sets pred viewer first olds ≡ r
          → IsDone viewer label table first r olds news notes now count → PlacesInOrder next news
      by_result (Err refusal) e d = absurd d
      by_result (Ok cells) e d = all_written first olds cells news e d.written all

many_written : (viewer : Viewer) (label : Label) (cells : List (Option Cell)) (olds news : List Place) → AllWritten viewer label cells olds news
    → length news ≡ length olds
many_written viewer label [] [] [] w = refl
many_written viewer label [] [] (new ∷ news) w = absurd w
many_written viewer label [] (old ∷ olds) news w = absurd w
many_written viewer label (cell ∷ cells) [] news w = absurd w
many_written viewer label (None ∷ cells) (old ∷ olds) [] w = absurd w
many_written viewer label (Some cell ∷ cells) (old ∷ olds) [] w = absurd w
many_written viewer label (None ∷ cells) (old ∷ olds) (new ∷ news) w = ap (λ (n : ℕ). suc n) (many_written viewer label cells olds news w.1)
many_written viewer label (Some cell ∷ cells) (old ∷ olds) (new ∷ news) w = ap (λ (n : ℕ). suc n) (many_written viewer label cells olds news w.1)

pub done_many : (viewer : Viewer) (label : Label) (table first : ℕ) (r : Result (List (Option Cell)) Refusal) (olds news : List Place)
    (notes now : List Change) (count : ℕ)
    → IsDone viewer label table first r olds news notes now count → length news ≡ length olds
done_many viewer label table first (Err refusal) olds news notes now count d = absurd d
done_many viewer label table first (Ok cells) olds news notes now count d = many_written viewer label cells olds news d.written
