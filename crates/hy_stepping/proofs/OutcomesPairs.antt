-- Two lists of one length, element by element.
use Rattle.std.proofs.Common.{◌≡◌, ℕ, zero, suc, ◌+◌, List, [], ◌∷◌, length, Some, refl, arith}
use Rattle.std.specs.Prelude.{slice_get}

-- something holds of each two that stand at one place, the first of these places having this number
abbrev pub EachFrom : {A B : Type 0} → (ℕ → A → B → Type 0) → ℕ → List A → List B → Type 0
EachFrom holds first [] [] = Unit {0}
EachFrom holds first [] (y ∷ ys) = ⊥
EachFrom holds first (x ∷ xs) [] = ⊥
EachFrom holds first (x ∷ xs) (y ∷ ys) = holds first x y × EachFrom holds (suc first) xs ys

pub each_from : {A B : Type 0} (holds : ℕ → A → B → Type 0) (first : ℕ) (xs : List A) (ys : List B) → length xs ≡ length ys
    → ((index number : ℕ) (x : A) (y : B) → number ≡ first + index → slice_get xs index ≡ Some x → slice_get ys index ≡ Some y → holds number x y)
    → EachFrom holds first xs ys
each_from holds first [] [] long each = tt
each_from holds first [] (y ∷ ys) long each = absurd (omega (arith, long))
each_from holds first (x ∷ xs) [] long each = absurd (omega (arith, long))
each_from holds first (x ∷ xs) (y ∷ ys) long each = (
  each zero first x y (omega arith) refl refl,
  each_from holds (suc first) xs ys (omega (arith, long)) (λ index number z w e f g. each (suc index) number z w (omega (arith, e)) f g),
)
