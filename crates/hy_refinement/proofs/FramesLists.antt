-- Lists in which one element is another one.
use Rattle.std.proofs.Common.{◌≡◌, ◌≢◌, ℕ, zero, suc, List, [], ◌∷◌, length, set, Some, Bool}
use Rattle.std.proofs.Common.{refl, sym, ap, ◌∙◌, arith}
use Rattle.std.specs.Prelude.{slice_get, sum_by, filter, cond, ◌||◌}
use Rattle.std.specs.List.{list_any}
use Rattle.std.proofs.lemmas.List.Sums.{sum_by-cons}
use Rattle.std.proofs.lemmas.Option.{same_Some}

-- the new element stands there
pub got_set : {A : Type 0} (xs : List A) (k : ℕ) (x y : A) → slice_get xs k ≡ Some x → slice_get (set xs k y) k ≡ Some y
got_set [] k x y e = absurd cc
got_set (z ∷ xs) zero x y e = refl
got_set (z ∷ xs) (suc k) x y e = got_set xs k x y e

-- another element stays
pub got_other : {A : Type 0} (xs : List A) (k other : ℕ) (y : A) → other ≢ k → slice_get (set xs k y) other ≡ slice_get xs other
got_other [] k other y apart = refl
got_other (z ∷ xs) zero zero y apart = absurd (apart refl)
got_other (z ∷ xs) zero (suc other) y apart = refl
got_other (z ∷ xs) (suc k) zero y apart = refl
got_other (z ∷ xs) (suc k) (suc other) y apart = got_other xs k other y (λ e. apart (ap (λ (n : ℕ). suc n) e))

-- where the element is the one that stood there, nothing changes
pub set_same : {A : Type 0} (xs : List A) (k : ℕ) (x : A) → slice_get xs k ≡ Some x → set xs k x ≡ xs
set_same [] k x e = refl
set_same (z ∷ xs) zero x e = ap (λ first. first ∷ xs) (sym (same_Some z x e))
set_same (z ∷ xs) (suc k) x e = ap (λ rest. z ∷ rest) (set_same xs k x e)

pub set_length : {A : Type 0} (xs : List A) (k : ℕ) (y : A) → length (set xs k y) ≡ length xs
set_length [] k y = refl
set_length (z ∷ xs) zero y = refl
set_length (z ∷ xs) (suc k) y = let e = set_length xs k y in omega (arith, e)

-- a test or a number that is the same of both
pub any_set : {A : Type 0} (test : A → Bool) (xs : List A) (k : ℕ) (x y : A) → slice_get xs k ≡ Some x → test y ≡ test x
    → list_any test (set xs k y) ≡ list_any test xs
any_set test [] k x y e same = refl
any_set test (z ∷ xs) zero x y e same = ap (λ (b : Bool). b || list_any test xs) (same ∙ ap test (sym (same_Some z x e)))
any_set test (z ∷ xs) (suc k) x y e same = ap (λ (b : Bool). test z || b) (any_set test xs k x y e same)

pub sum_set : {A : Type 0} (of : A → ℕ) (xs : List A) (k : ℕ) (x y : A) → slice_get xs k ≡ Some x → of y ≡ of x
    → sum_by of (set xs k y) ≡ sum_by of xs
sum_set of [] k x y e same = refl
sum_set of (z ∷ xs) zero x y e same =
    let was : of z ≡ of x = ap of (same_Some z x e) in
    let before = sum_by-cons of z xs in
    let after = sum_by-cons of y xs in
    omega (arith, was, before, after, same)
sum_set of (z ∷ xs) (suc k) x y e same =
    let rest = sum_set of xs k x y e same in
    let before = sum_by-cons of z xs in
    let after = sum_by-cons of z (set xs k y) in
    omega (arith, rest, before, after)

-- what passes one test or the other, where they are the same
pub filter_same : {A : Type 0} (f g : A → Bool) (xs : List A) → ((x : A) → f x ≡ g x) → filter f xs ≡ filter g xs
filter_same f g [] same = refl
filter_same {A} f g (x ∷ xs) same =
    ap (λ (b : Bool). cond b (x ∷ filter f xs) (filter f xs)) (same x)
    ∙ ap (λ (ys : List A). cond (g x) (x ∷ ys) ys) (filter_same f g xs same)
