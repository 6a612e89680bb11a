-- Items of a list: what is said of each, and of the first that passes a test.
use Rattle.std.proofs.Common.{◌≡◌, ℕ, suc, List, [], ◌∷◌, Option, Some, Bool, true, false, cond, subst, refl}
use Rattle.std.specs.Prelude.{find, ◌&&◌, ◌||◌}
use Rattle.std.specs.List.{AllByRecursion, list_any}
use Rattle.std.proofs.lemmas.Option.{same_Some}
use Rattle.hy_lawful.specs.Outcomes.{EachFrom}

pub and_left : (b c : Bool) → (b && c) ≡ true → b ≡ true
and_left true c e = refl
and_left false c e = absurd cc

pub and_right : (b c : Bool) → (b && c) ≡ true → c ≡ true
and_right true c e = e
and_right false c e = absurd cc

-- ---- what is said of each item

pub all_so : {X : Type 0} (P Q : X → Type 0) (xs : List X) → ((x : X) → P x → Q x) → AllByRecursion P xs → AllByRecursion Q xs
all_so P Q [] f h = tt
all_so P Q (x ∷ xs) f h = (f x h.0, all_so P Q xs f h.1)

pub all_both : {X : Type 0} (P Q : X → Type 0) (xs : List X) → AllByRecursion P xs → AllByRecursion Q xs → AllByRecursion (λ x. P x × Q x) xs
all_both P Q [] h k = tt
all_both P Q (x ∷ xs) h k = ((h.0, k.0), all_both P Q xs h.1 k.1)

pub all_of : {X : Type 0} (P : X → Type 0) (xs : List X) → ((x : X) → P x) → AllByRecursion P xs
all_of P [] f = tt
all_of P (x ∷ xs) f = (f x, all_of P xs f)

pub each_so : {X : Type 0} (first : ℕ) (P Q : ℕ → X → Type 0) (xs : List X) → ((n : ℕ) (x : X) → P n x → Q n x) → EachFrom first P xs → EachFrom first Q xs
each_so first P Q [] f h = tt
each_so first P Q (x ∷ xs) f h = (f first x h.0, each_so (suc first) P Q xs f h.1)

-- where none passes a test, it isn't so that one does
none_passes : (b c : Bool) → b ≡ false → (c ≡ true → ⊥) → (b || c) ≡ true → ⊥
none_passes true c e f h = absurd cc
none_passes false c e f h = f h

pub none_of : {X : Type 0} (test : X → Bool) (xs : List X) → AllByRecursion (λ x. test x ≡ false) xs → list_any test xs ≡ true → ⊥
none_of test [] h e = absurd cc
none_of test (x ∷ xs) h e = none_passes (test x) (list_any test xs) h.0 (none_of test xs h.1) e

-- ---- the first item that passes a test

-- it is one of the list, and passes
pub record IsFound {X : Type 0} (P : X → Type 0) (test : X → Bool) (x : X) : Type 0 where
  pub holds : P x
  pub passes : test x ≡ true

found_here : {X : Type 0} (P : X → Type 0) (test : X → Bool) (x y : X) (rest : Option X) (b : Bool) → test y ≡ b → P y
    → (rest ≡ Some x → IsFound P test x) → cond b (Some y) rest ≡ Some x → IsFound P test x
found_here P test x y rest true passes p later e =
    subst (IsFound P test) (same_Some y x e) (record { holds = p; passes = passes })
found_here P test x y rest false passes p later e = later e

pub found : {X : Type 0} (P : X → Type 0) (test : X → Bool) (xs : List X) → AllByRecursion P xs → (x : X) → find test xs ≡ Some x
    → IsFound P test x
found P test [] h x e = absurd cc
found P test (y ∷ xs) h x e = found_here P test x y (find test xs) (test y) refl h.0 (found P test xs h.1 x) e
