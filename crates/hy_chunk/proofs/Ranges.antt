-- The range of the positions that have records, when chains change.
use Rattle.std.proofs.Common.{◌≡◌, ℕ, zero, suc, ◌<◌, false, List, [], ◌∷◌, length, get_or, replicate, refl, sym, ap, ◌∙◌, subst, arith, inl, inr}
use Rattle.std.specs.Prelude.{◌⊎◌, ◌^◌, ◌&&◌, nat_le, nat_lt}
use Rattle.std.proofs.Math.ListN.{set}
use Rattle.std.proofs.lemmas.Bool.{cases_eq, both_ways, and_from, le-leb, lt-ltb}
use Rattle.std.proofs.lemmas.List.{length-set, get_or-set_other}
use Rattle.hy_chain.specs.Chains.{Undo, stamped, without_own}
use Rattle.hy_chain.specs.Pruning.{pruned}
use Rattle.hy_prune.specs.declared.Cover.{Cover}
use Rattle.hy_range.specs.declared.Versioned.{Versioned}
use Rattle.hy_range.specs.Ranges.{IsIn}
use Rattle.hy_undo.specs.Images.{Image, both}
use Rattle.hy_chunk.specs.Ranged.{Covers}

abbrev pub Chains : Type 0
Chains = List (List (Undo Image))

empty_at : (n k : ℕ) → ◌≡◌ {A = List (Undo Image)} (get_or (replicate n []) k []) []
empty_at zero k = refl
empty_at (suc n) zero = refl
empty_at (suc n) (suc k) = empty_at n k

-- where no position has a record any range does
pub covers_blank : (range : Versioned) (n : ℕ) (chains : Chains) → chains ≡ replicate n [] → Covers range chains
covers_blank range n chains e = λ k. inl (ap (λ (cs : Chains). get_or cs k []) e ∙ empty_at n k)

emptied : (chains : Chains) (place : ℕ) → get_or (set chains place []) place [] ≡ []
emptied [] place = refl
emptied (x ∷ chains) zero = refl
emptied (x ∷ chains) (suc place) = emptied chains place

-- a position that had no record has none
pub covers_less : (range : Versioned) (old new : Chains) (place : ℕ) (chain : List (Undo Image)) → Covers range old → new ≡ set old place chain
    → (get_or old place [] ≡ [] → chain ≡ []) → Covers range new
covers_less range old new place chain c e less = λ k. elim (cases_eq k place) [
  | inl same ↦ subst (λ (j : ℕ). (get_or new j [] ≡ []) ⊎ IsIn j range) (sym same) (elim (c place) [
    | inl none ↦ inl (there none)
    | inr within ↦ inr within
  ])
  | inr other ↦ subst (λ (x : List (Undo Image)). (x ≡ []) ⊎ IsIn k range)
      (sym (ap (λ (cs : Chains). get_or cs k []) e ∙ get_or-set_other old place k chain [] other)) (c k)
]
  where
    there : get_or old place [] ≡ [] → get_or new place [] ≡ []
    there none =
        ap (λ (cs : Chains). get_or cs place []) e
        ∙ (ap (λ (x : List (Undo Image)). get_or (set old place x) place []) (less none) ∙ emptied old place)

pub pruned_none : (cover : Cover) (chain : List (Undo Image)) → chain ≡ [] → pruned both cover chain ≡ []
pruned_none cover chain e = ap (pruned both cover) e

pub stamped_none : (id time : ℕ) (chain : List (Undo Image)) → chain ≡ [] → stamped id time chain ≡ []
stamped_none id time chain e = ap (stamped id time) e

pub without_none : (id : ℕ) (chain : List (Undo Image)) → chain ≡ [] → without_own id chain ≡ []
without_none id chain e = ap (without_own id) e

-- each of the first so many positions has no record, or is of the range
abbrev pub CoversUpTo : Versioned → Chains → ℕ → Type 0
CoversUpTo range chains count = (k : ℕ) → k < count → (get_or chains k [] ≡ []) ⊎ IsIn k range

-- another row leaves as many
pub still_numbered : {A : Type 0} (rows now : List A) (place : ℕ) (row : A) → now ≡ set rows place row → length rows < 2 ^ 32 → length now < 2 ^ 32
still_numbered rows now place row e l = omega (arith, l, ap length e, length-set rows place row)

-- outside the range a position has no record
pub outside_none : (range : Versioned) (chains : Chains) (place : ℕ) → Covers range chains → (nat_le range.first place && nat_lt place range.end) ≡ false
    → get_or chains place [] ≡ []
outside_none range chains place c out = elim (c place) [
  | inl none ↦ none
  | inr within ↦ absurd (both_ways (nat_le range.first place && nat_lt place range.end) out
      (and_from (nat_le range.first place) (nat_lt place range.end) (le-leb range.first place within.0) (lt-ltb place range.end within.1)))
]

-- a position apart from the range has no record
pub apart_none : (range : Versioned) (chains : Chains) (place : ℕ) → Covers range chains → (IsIn place range → ⊥) → get_or chains place [] ≡ []
apart_none range chains place c apart = elim (c place) [
  | inl none ↦ none
  | inr within ↦ absurd (apart within)
]
