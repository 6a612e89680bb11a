-- What holds of the elements of a list, and of each two of them, when one is replaced or one more comes.
use Rattle.std.proofs.Common.{◌≡◌, ◌≢◌, ◌⊎◌, ℕ, ◌<◌, List, [], ◌∷◌, ◌++◌, length, get_or, set}
use Rattle.std.proofs.Common.{sym, ap, ◌∙◌, inl, inr, arith, subst, length-append, length-set, get_or-set_same, get_or-set_other}
use Rattle.std.specs.Prelude.{All, Any, AllPairs}
use Rattle.std.proofs.lemmas.Bool.{cases_lt}
use Rattle.std.proofs.lemmas.List.{get_or_append_left, get_or_default}
use Rattle.std.proofs.lemmas.List.Quantifiers.{any-set}
use Rattle.std.proofs.lemmas.List.Elements.{All-append, All-cons, All-nil}

same_or_not : (i k : ℕ) → (i ≡ k) ⊎ (i ≢ k)
same_or_not i k =
    elim (cases_lt i k) [
      | inl l ↦ inr (λ e. absurd (omega arith))
      | inr m ↦ elim (cases_lt k i) [ inl l ↦ inr (λ e. absurd (omega arith)) | inr n ↦ inl (omega arith) ]
    ]

module _ {X : Type 0} where
  -- each of some, and one more
  pub all_and_last : (P : X → Type 0) (xs : List X) (y : X) → All P xs → P y → All P (xs ++ y ∷ [])
  all_and_last P xs y h p = All-append P xs (y ∷ []) h (All-cons P y [] p (All-nil P))

  at_is : (xs : List X) (at : ℕ) (x d : X) → at < length xs → get_or xs at x ≡ x → get_or xs at d ≡ x
  at_is xs at x d l e = get_or_default xs at d x l ∙ e

  -- each two, where one is replaced by one that stands to the others as it did
  pub pairs_with : (R : X → X → Type 0) (xs : List X) (at : ℕ) (x y : X) → at < length xs → get_or xs at x ≡ x → ((z : X) → R z x → R z y)
      → ((z : X) → R x z → R y z) → AllPairs R xs → AllPairs R (set xs at y)
  pairs_with R xs at x y l e f g h i j d lt within = by (same_or_not i at) (same_or_not j at)
    where
      len : length (set xs at y) ≡ length xs
      len = length-set xs at y

      pair : R (get_or xs i d) (get_or xs j d)
      pair = let k = len in h i j d lt (omega arith)

      put : (k : ℕ) → k ≡ at → y ≡ get_or (set xs at y) k d
      put k same = sym (ap (λ n. get_or (set xs at y) n d) same ∙ get_or-set_same xs at y d l)

      old : (k : ℕ) → k ≡ at → get_or xs k d ≡ x
      old k same = ap (λ n. get_or xs n d) same ∙ at_is xs at x d l e

      kept : (k : ℕ) → k ≢ at → get_or xs k d ≡ get_or (set xs at y) k d
      kept k other = sym (get_or-set_other xs at k y d other)

      by : (i ≡ at) ⊎ (i ≢ at) → (j ≡ at) ⊎ (j ≢ at) → R (get_or (set xs at y) i d) (get_or (set xs at y) j d)
      by (inl s) (inl t) = absurd (omega arith)
      by (inl s) (inr t) =
          subst (λ a. R a (get_or (set xs at y) j d)) (put i s)
          (subst (λ b. R y b) (kept j t) (g _ (subst (λ a. R a (get_or xs j d)) (old i s) pair)))
      by (inr s) (inl t) =
          subst (λ a. R a (get_or (set xs at y) j d)) (kept i s)
          (subst (λ b. R (get_or xs i d) b) (put j t) (f _ (subst (λ b. R (get_or xs i d) b) (old j t) pair)))
      by (inr s) (inr t) =
          subst (λ a. R a (get_or (set xs at y) j d)) (kept i s) (subst (λ b. R (get_or xs i d) b) (kept j t) pair)

  -- one of some is one of these and one more
  pub any_and_last : (P : X → Type 0) (xs : List X) (y : X) → Any P xs → Any P (xs ++ y ∷ [])
  any_and_last P xs y a =
      let len = length-append xs (y ∷ []) in
      let within = a.2 in
      (a.0, a.1, omega arith, get_or_append_left xs (y ∷ []) a.1 a.0 within ∙ a.3, a.4)

  -- one of some is one of those that there are then, where what is put in has what the other had
  pub any_with : (P : X → Type 0) (xs : List X) (at : ℕ) (x y : X) → at < length xs → get_or xs at x ≡ x → (P x → P y) → Any P xs → Any P (set xs at y)
  any_with P xs at x y l e f a = by (same_or_not a.0 at)
    where
      by : (a.0 ≡ at) ⊎ (a.0 ≢ at) → Any P (set xs at y)
      by (inl same) =
          any-set P xs at y l (f (subst P (sym a.3 ∙ (ap (λ k. get_or xs k a.1) same ∙ at_is xs at x a.1 l e)) a.4))
      by (inr other) =
          let len = length-set xs at y in
          let within = a.2 in
          (a.0, a.1, omega arith, get_or-set_other xs at a.0 y a.1 other ∙ a.3, a.4)
