-- Parts in their slots, and parts that are taken out of them one after another when the table is closed.
use Rattle.std.proofs.Common.{◌≡◌, ℕ, zero, suc, arith, refl, sym, ap, ◌∙◌, Some, None, List, [], ◌∷◌, ◌++◌, map, length}
use mathlib.Core.List.{map-append}
use mathlib.Core.Option.{some, some-injective, some-ne-none}
use lib.ListN.{get_elem?, length-map, take}
use Rattle.atomic_table.proofs.Lists.{at_map}
use Rattle.crossbeam_utils.specs.Padded.{padded_value}
use Rattle.crossbeam_utils.specs.declared.cache_padded.CachePadded.{CachePadded}
use Rattle.hy_threads.specs.Rule.{Slot, content}
use Rattle.hy_threads.proofs.Lists.{some_inj, some_not_none, first_or, rest_of, map_some_inj, take_more, take_whole}

module _ {D : Type 0} where
  -- the slot k has the part p
  abbrev pub HasPart : List (Slot D) → ℕ → D → Type 0
  HasPart xs k p = (y : CachePadded D) × (get_elem? xs k ≡ some (Some y)) × (padded_value y ≡ p)

  slot_some : (p : D) (s : Slot D) → content s ≡ Some p → (y : CachePadded D) × (s ≡ Some y) × (padded_value y ≡ p)
  slot_some p None e = absurd (some_not_none p (sym e))
  slot_some p (Some y) e = (y, refl, some_inj (padded_value y) p e)

  pub in_slot : (xs : List (Slot D)) (parts : List D) → map content xs ≡ map Some parts → (k : ℕ) (p : D) → get_elem? parts k ≡ some p → HasPart xs k p
  in_slot [] [] e k p at = absurd (some-ne-none p (sym at))
  in_slot [] (q ∷ qs) e k p at = let h : ◌≡◌ {A = ℕ} 0 (suc (length (map Some qs))) = ap length e in absurd (omega (arith, h))
  in_slot (x ∷ xs) [] e k p at = absurd (some-ne-none p (sym at))
  in_slot (x ∷ xs) (q ∷ qs) e zero p at = let h = slot_some p x (ap (first_or (content x)) e ∙ ap Some (some-injective q p at)) in (h.0, ap some h.1, h.2)
  in_slot (x ∷ xs) (q ∷ qs) e (suc k) p at = in_slot xs qs (ap rest_of e) k p at

  pub in_slots : (xs : List (Slot D)) (parts : List D) → length xs ≡ length parts → ((k : ℕ) (p : D) → get_elem? parts k ≡ some p → HasPart xs k p)
      → map content xs ≡ map Some parts
  in_slots [] [] len h = refl
  in_slots [] (q ∷ qs) len h = absurd (omega arith)
  in_slots (x ∷ xs) [] len h = absurd (omega arith)
  in_slots (x ∷ xs) (q ∷ qs) len h = let g = h 0 q refl in let e : content x ≡ Some q = ap content (some-injective x (Some g.0) g.1) ∙ ap Some g.2 in
      (λ i. e i ∷ in_slots xs qs (omega arith) (λ k p at. h (suc k) p at) i)

  pub no_hole : (xs : List (Slot D)) (parts : List D) → map content xs ≡ map Some parts → (k : ℕ) → get_elem? xs k ≡ some None → ⊥
  no_hole [] parts e k at = some-ne-none None (sym at)
  no_hole (x ∷ xs) [] e k at = let h : ◌≡◌ {A = ℕ} (suc (length (map content xs))) 0 = ap length e in absurd (omega (arith, h))
  no_hole (x ∷ xs) (q ∷ qs) e zero at = some_not_none q (sym (ap (first_or None) e) ∙ ap content (some-injective x None at))
  no_hole (x ∷ xs) (q ∷ qs) e (suc k) at = no_hole xs qs (ap rest_of e) k at

  -- no slot is empty behind those that are done
  pub none_empty : (done more : List (Slot D)) (parts : List D) → map content (done ++ None ∷ more) ≡ map Some parts → ⊥
  none_empty [] more [] e = let h : ◌≡◌ {A = ℕ} (suc (length (map content more))) 0 = ap length e in absurd (omega (arith, h))
  none_empty [] more (q ∷ qs) e = some_not_none q (sym (ap (first_or None) e))
  none_empty (x ∷ xs) more [] e = let h : ◌≡◌ {A = ℕ} (suc (length (map content (xs ++ None ∷ more)))) 0 = ap length e in absurd (omega (arith, h))
  none_empty (x ∷ xs) more (q ∷ qs) e = none_empty xs more qs (ap rest_of e)

  -- one more part was taken out
  pub one_more : (xs : List (Slot D)) (out : List D) (k : ℕ) (y : CachePadded D) (p : D) → get_elem? xs k ≡ some (Some y) → p ≡ padded_value y
      → map Some out ≡ take k (map content xs) → map Some (out ++ p ∷ []) ≡ take (suc k) (map content xs)
  one_more xs out k y p at is e = map-append Some out (p ∷ []) ∙ (λ i. e i ++ Some (is i) ∷ [])
      ∙ sym (take_more (map content xs) k (Some (padded_value y)) (at_map content xs k (Some y) at))

  -- all were taken out
  pub all_out : (xs : List (Slot D)) (out parts : List D) (k : ℕ) → k ≡ length xs → map Some out ≡ take k (map content xs)
      → map content xs ≡ map Some parts → out ≡ parts
  all_out xs out parts k whole e h = map_some_inj out parts (e ∙ (take_whole (map content xs) k (whole ∙ sym (length-map xs content)) ∙ h))
