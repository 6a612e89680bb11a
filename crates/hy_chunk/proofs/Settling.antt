-- Positions that needn't be looked at, when chains or bits change.
use Rattle.std.proofs.Common.{◌≡◌, ℕ, ◌+◌, ◌<◌, ◌≤◌, Bool, true, false, List, [], ◌∷◌, length, get_or, refl, ap, ◌∙◌, cond, arith, inl, inr}
use Rattle.std.proofs.Common.{None}
use Rattle.std.specs.Prelude.{count_by, nat_lt}
use Rattle.std.proofs.Math.ListN.{set}
use Rattle.std.proofs.lemmas.Bool.{cases_eq, ltb-true, lt-ltb, ne_eqb}
use Rattle.std.proofs.lemmas.List.{get_or-set_same, get_or-set_other}
use Rattle.std.proofs.lemmas.List.Sums.{sum_by-cons}
use Rattle.hy_chain.specs.Chains.{Undo, newest}
use Rattle.hy_chain.specs.Pruning.{pruned, by_fate}
use Rattle.hy_prune.specs.declared.Cover.{Cover}
use Rattle.hy_prune.specs.declared.Fate.{Fate}
use Rattle.hy_prune.specs.Cases.{fate_cases}
use Rattle.hy_prune.specs.Fates.{watermark_of}
use Rattle.hy_undo.specs.Images.{Image, both}
use Rattle.hy_undo.specs.Places.{Place}
use Rattle.hy_undo.specs.Chunks.{is_own}
use Rattle.hy_undo.specs.Steps.{pruned_place}
use Rattle.hy_chunk.specs.Settled.{AllSetIn, IsAtRest, IsReleased}

-- ---- a chain that is released

-- its newest record has none of the identifiers from the time on
pub not_own : (before id : ℕ) (chain : List (Undo Image)) → before ≤ id → IsReleased before chain → is_own id (newest chain) ≡ false
not_own before id [] late released = refl
not_own before id (undo ∷ chain) late released =
    let below = ltb-true undo.stamp.mark before released in
    ne_eqb undo.stamp.mark id (λ e. absurd (omega (arith, late, below, e)))

-- ---- a chain at rest

-- a start is below a time that is after the watermark
some_below : (starts : List ℕ) (next time : ℕ) → get_or starts 0 next < time → time < next
    → count_by (λ start. nat_lt start time) starts ≡ 0 → ⊥
some_below [] next time low early none = absurd (omega (arith, low, early))
some_below (start ∷ starts) next time low early none =
    let more = sum_by-cons (λ other. cond (nat_lt other time) 1 0) start starts in
    let one : ◌≡◌ {A = ℕ} (cond (nat_lt start time) 1 0) 1 = ap (λ (b : Bool). cond b 1 0) (lt-ltb start time low) in
    absurd (omega (arith, none, more, one))

-- a record that is alone stays, where it is after the watermark
alone_stays : (cover : Cover) (undo : Undo Image) → watermark_of cover < undo.stamp.mark → pruned both cover (undo ∷ []) ≡ undo ∷ []
alone_stays cover undo low =
    elim (fate_cases cover None undo.stamp.mark) [
      | inl kept ↦ ap (λ (fate : Fate). by_fate fate (undo ∷ []) (undo ∷ []) []) kept.is
      | inr (inl merged) ↦ ap (λ (fate : Fate). by_fate fate (undo ∷ []) (undo ∷ []) []) merged.is
      | inr (inr dropped) ↦ absurd (some_below cover.starts cover.next undo.stamp.mark low dropped.old dropped.free)
    ]

chain_stays : (cover : Cover) (after : ℕ) (chain : List (Undo Image)) → watermark_of cover ≤ after → IsAtRest after chain → pruned both cover chain ≡ chain
chain_stays cover after [] late rest = refl
chain_stays cover after (undo ∷ []) late rest = alone_stays cover undo (omega (arith, late, rest))
chain_stays cover after (undo ∷ older ∷ chain) late rest = absurd rest

-- pruning leaves a position at rest as it is
pub rest_unpruned : (cover : Cover) (after : ℕ) (p : Place) → watermark_of cover ≤ after → IsAtRest after p.chain → pruned_place cover p ≡ p
rest_unpruned cover after p late rest = λ i. record p { chain = chain_stays cover after p.chain late rest i }

-- ---- bits

-- the bits of a part are set one by one
pub one_more_set : (first count : ℕ) (bits now : List Bool) → count < length bits → AllSetIn first count bits → now ≡ set bits count true
    → AllSetIn first (count + 1) now
one_more_set first count bits now within all put = λ k reached l. elim (cases_eq k count) [
  | inl same ↦ ap (λ (j : ℕ). get_or now j false) same ∙ (ap (λ (bs : List Bool). get_or bs count false) put ∙ get_or-set_same bits count true false within)
  | inr other ↦ ap (λ (bs : List Bool). get_or bs k false) put ∙ (get_or-set_other bits count k true false other ∙ all k reached (omega (arith, l, other)))
]
