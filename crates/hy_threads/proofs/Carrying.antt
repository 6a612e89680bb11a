-- What the seat of a thread carries, and how a take, a give and a split leave it.
use Rattle.std.proofs.Common.{◌≡◌, ℕ, ◌<◌, ◌^◌, arith, sym, ap, ◌∙◌, subst, Some, None, List, [], ◌∷◌, length}
use mathlib.Core.Option.{some}
use lib.ListN.{get_elem?}
use Rattle.atomic_table.specs.Table.{Me, rest}
use Rattle.crossbeam_utils.specs.Padded.{padded_value}
use Rattle.crossbeam_utils.specs.declared.cache_padded.CachePadded.{CachePadded}
use Rattle.hy_threads.specs.Knowledge.{Keeper, Visitor, Knowledge, First, Seated, visitor, newly_seated, holding, settled, child}
use Rattle.hy_threads.specs.Rule.{Slot}
use Rattle.hy_threads.specs.Seats.{number_of, slots_of, out_of, held_slots, AreFew, IsSound}
use Rattle.hy_threads.proofs.Lists.{inside, first_or, none_out, one_out}

-- what a seat knows, and what it carries
abbrev pub Mine : Type 0 → Type 0 → Type 0 → Type 0
Mine S D X = Me X (Knowledge S D)

module _ {S D X : Type 0} where
  -- a seat that has no part carries nothing
  pub carries_none : (number : ℕ) (me : Mine S D X) (o : Visitor S D) → IsSound number me → me.0 ≡ Seated o → o.held ≡ None → me.1 ≡ []
  carries_none number me o sound is free = none_out me.1 (sound.1 ∙ (ap out_of is ∙ ap held_slots free))

  -- a seat that has the part k carries its slot alone
  pub carries_one : (number : ℕ) (me : Mine S D X) (o : Visitor S D) (k : ℕ) (p : D) → IsSound number me → me.0 ≡ Seated o → o.held ≡ Some (k, p)
      → (x : X) × (me.1 ≡ (k, x) ∷ [])
  carries_one number me o k p sound is held = one_out me.1 k (sound.1 ∙ (ap out_of is ∙ ap held_slots held))

  -- the part that is given goes into the slot that is carried
  pub laid : (number : ℕ) (me m₁ : Mine S D X) (o : Visitor S D) (k : ℕ) (p : D) (x : X) → IsSound number me → me.0 ≡ Seated o → o.held ≡ Some (k, p)
      → m₁ ≡ (me.0, (k, x) ∷ rest me.1) → (m₁.0 ≡ Seated o) × (m₁.1 ≡ (k, x) ∷ [])
  laid number me m₁ o k p x sound is held now =
      let out = carries_one number me o k p sound is held in (ap (λ m. m.0) now ∙ is, ap (λ m. m.1) now ∙ ap (λ l. (k, x) ∷ rest l) out.1)

  -- a seat that gave its part is sound
  pub sound_after_give : (number : ℕ) (me m₁ m₂ : Mine S D X) (o : Visitor S D) (k : ℕ) (x : X) (t : S) → IsSound number me → me.0 ≡ Seated o
      → m₁.1 ≡ (k, x) ∷ [] → m₂ ≡ (Seated (settled o t), rest m₁.1) → IsSound number m₂
  sound_after_give number me m₁ m₂ o k x t sound is carried now = (
    sound.0 ∙ (ap number_of is ∙ sym (ap (λ m. number_of m.0) now)),
    ap (λ m. slots_of m.1) now ∙ (ap (λ l. slots_of (rest l)) carried ∙ sym (ap (λ m. out_of m.0) now)),
    subst AreFew (sym (ap (λ m. m.0) now)) (subst AreFew is sound.2),
  )

  -- the number of the next session is that of the first seat, and fits
  pub next_number : (number : ℕ) (me : Mine S D X) (r : Keeper S) (s : S) → IsSound number me → me.0 ≡ First r → get_elem? r.kept r.made ≡ some (Some s)
      → (number ≡ r.made) × (r.made < 2 ^ 31)
  next_number number me r s sound is next =
      let few : length r.kept < 2 ^ 31 = subst AreFew is sound.2 in let low = inside r.kept r.made (Some s) next in
      (sound.0 ∙ ap number_of is, omega arith)

  -- a seat that was just made is sound
  pub sound_child : (number : ℕ) (me new : Mine S D X) (r : Keeper S) (s : S) → IsSound number me → me.0 ≡ First r → get_elem? r.kept r.made ≡ some (Some s)
      → new ≡ (child me.0, []) → IsSound number new
  sound_child number me new r s sound is next now =
      let fits = next_number number me r s sound is next in
      let made : new.0 ≡ Seated (visitor r.made s None []) = ap (λ m. m.0) now ∙ (ap child is ∙ ap (newly_seated r.made) next) in
      (fits.0 ∙ sym (ap number_of made), ap (λ m. slots_of m.1) now ∙ sym (ap out_of made), subst AreFew (sym made) fits.1)

  -- a seat whose visitor has the same number, and the slots of the part that it has, is sound
  pub sound_as : (number : ℕ) (me m₂ : Mine S D X) (o o₂ : Visitor S D) → IsSound number me → me.0 ≡ Seated o → m₂.0 ≡ Seated o₂
      → o₂.number ≡ o.number → slots_of m₂.1 ≡ held_slots o₂.held → IsSound number m₂
  sound_as number me m₂ o o₂ sound is now same slots =
      let few : o.number < 2 ^ 31 = subst AreFew is sound.2 in let few₂ : o₂.number < 2 ^ 31 = omega arith in
      (sound.0 ∙ (ap number_of is ∙ (sym same ∙ sym (ap number_of now))), slots ∙ sym (ap out_of now), subst AreFew (sym now) few₂)

-- a take that was won and had the part read out of its slot
pub taken_out : {S D : Type 0} (m₁ m₂ : Mine S D (Slot D)) (o : Visitor S D) (k : ℕ) (y : CachePadded D) (found : Slot D)
    → m₁ ≡ (Seated (holding o k (padded_value y)), (k, Some y) ∷ []) → m₁.1 ≡ (k, found) ∷ rest m₁.1 → m₂ ≡ (m₁.0, (k, None) ∷ rest m₁.1)
    → (found ≡ Some y) × (m₂ ≡ (Seated (holding o k (padded_value y)), (k, None) ∷ []))
taken_out {S} {D} m₁ m₂ o k y found won read now =
    let same = sym read ∙ ap (λ m. m.1) won in
    (ap (λ (l : List (ℕ × Slot D)). (first_or {A = ℕ × Slot D} (k, None) l).1) same, now ∙ (λ i. ((won i).0, (k, None) ∷ rest (won i).1)))
