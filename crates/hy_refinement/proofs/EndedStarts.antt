-- The open starts without one of them.
use Rattle.std.proofs.Common.{◌≡◌, ℕ, ◌<◌, List, [], ◌∷◌, Contains, Bool, true, false, refl, sym, ◌∙◌, subst, arith, cond, inl, inr}
use Rattle.std.specs.Prelude.{◌==◌}
use Rattle.std.specs.List.{AllByRecursion}
use Rattle.std.proofs.lemmas.Bool.{eqb-true, eqb-false}
use Rattle.hy_prune.specs.OpenStarts.{Rise, without}
use Rattle.hy_refinement.proofs.Stamps.{behind, first_of, here_or, nothing}

below_without : (first start : ℕ) (starts : List ℕ) → AllByRecursion (λ later. first < later) starts
    → AllByRecursion (λ later. first < later) (without start starts)
below_without first start [] all = tt
below_without first start (one ∷ starts) all = by (one == start) (below_without first start starts all.1)
  where
    by : (b : Bool) → AllByRecursion (λ later. first < later) (without start starts)
        → AllByRecursion (λ later. first < later) (cond b starts (one ∷ without start starts))
    by true later = all.1
    by false later = (all.0, later)

pub rise_without : (start : ℕ) (starts : List ℕ) → Rise starts → Rise (without start starts)
rise_without start [] rise = tt
rise_without start (first ∷ starts) rise = by (first == start) (rise_without start starts rise.1)
  where
    by : (b : Bool) → Rise (without start starts) → Rise (cond b starts (first ∷ without start starts))
    by true later = rise.1
    by false later = (below_without first start starts rise.0, later)

-- the others stay
pub still_in : (start other : ℕ) (starts : List ℕ) → (other ≡ start → ⊥) → Contains starts other → Contains (without start starts) other
still_in start other [] apart c = absurd (nothing other c)
still_in start other (first ∷ starts) apart c = by (first == start) (eqb-true first start) (still_in start other starts apart)
  where
    by : (b : Bool) → (b ≡ true → first ≡ start) → (Contains starts other → Contains (without start starts) other)
        → Contains (cond b starts (first ∷ without start starts)) other
    by true same stays = elim (here_or first other starts c) [
      | inl here ↦ absurd (apart (sym here ∙ same refl))
      | inr later ↦ later
    ]
    by false same stays = elim (here_or first other starts c) [
      | inl here ↦ subst (λ (x : ℕ). Contains (x ∷ without start starts) other) (sym here) (first_of other (without start starts))
      | inr later ↦ behind first other (without start starts) (stays later)
    ]

-- and were there
pub was_in : (start other : ℕ) (starts : List ℕ) → Contains (without start starts) other → Contains starts other
was_in start other [] c = c
was_in start other (first ∷ starts) c = by (first == start) (was_in start other starts) c
  where
    by : (b : Bool) → (Contains (without start starts) other → Contains starts other) → Contains (cond b starts (first ∷ without start starts)) other
        → Contains (first ∷ starts) other
    by true were d = behind first other starts d
    by false were d = elim (here_or first other (without start starts) d) [
      | inl here ↦ subst (λ (x : ℕ). Contains (x ∷ starts) other) (sym here) (first_of other starts)
      | inr later ↦ behind first other starts (were later)
    ]

above_all : (first other : ℕ) (starts : List ℕ) → AllByRecursion (λ later. first < later) starts → Contains starts other → first < other
above_all first other [] all c = absurd (nothing other c)
above_all first other (one ∷ starts) all c = elim (here_or one other starts c) [
  | inl here ↦ subst (λ (x : ℕ). first < x) here all.0
  | inr later ↦ above_all first other starts all.1 later
]

-- it is there no more, since each stood once
pub not_in : (start other : ℕ) (starts : List ℕ) → Rise starts → Contains (without start starts) other → other ≡ start → ⊥
not_in start other [] rise c same = nothing other c
not_in start other (first ∷ starts) rise c same =
    by (first == start) (eqb-true first start) (eqb-false first start) (λ d. not_in start other starts rise.1 d same) c
  where
    by : (b : Bool) → (b ≡ true → first ≡ start) → (b ≡ false → first ≡ start → ⊥) → (Contains (without start starts) other → ⊥)
        → Contains (cond b starts (first ∷ without start starts)) other → ⊥
    by true is isnt later d = let less = above_all first other starts rise.0 d in let e = is refl in omega (arith, less, e, same)
    by false is isnt later d = elim (here_or first other (without start starts) d) [
      | inl here ↦ isnt refl (here ∙ same)
      | inr there ↦ later there
    ]
