-- A name that has no index in a list is nowhere in it, and comes last once it is added.
use Rattle.std.proofs.Common.{◌≡◌, ℕ, suc, ◌+◌, Bool, true, false, not, ◌||◌, cond, nat_lt, List, [], ◌∷◌, ◌++◌, Some, None, length, refl, ap, arith}
use Rattle.std.specs.List.{list_any, position, prefix_len}
use Rattle.std.proofs.lemmas.Bool.{ltb-false, le-ltb}

is_not : {A : Type 0} (b : Bool) (x : A) → cond b (Some x) None ≡ None → b ≡ false
is_not true x h = absurd cc
is_not false x h = refl

nowhere_step : (b : Bool) (n l : ℕ) (r : Bool) → cond (nat_lt (cond (not b) (1 + n) 0) (suc l)) (Some (cond (not b) (1 + n) 0)) None ≡ None → (cond (nat_lt n l) (Some n) None ≡ None → r ≡ false) → (b || r) ≡ false
nowhere_step true n l r h ih = let behind = ltb-false 0 (suc l) (is_not (nat_lt 0 (suc l)) 0 h) in absurd (omega (arith, behind))
nowhere_step false n l r h ih =
    let behind = ltb-false (1 + n) (suc l) (is_not (nat_lt (1 + n) (suc l)) (1 + n) h) in
    let here : nat_lt n l ≡ false = le-ltb n l (omega (arith, behind)) in
    ih (ap (λ (b : Bool). cond b (Some n) None) here)

-- what has no index is nowhere
pub nowhere : {A : Type 0} (test : A → Bool) (xs : List A) → position test xs ≡ None → list_any test xs ≡ false
nowhere test [] h = refl
nowhere test (x ∷ xs) h = nowhere_step (test x) (prefix_len (λ y. not (test y)) xs) (length xs) (list_any test xs) h (nowhere test xs)

-- an element that is nowhere comes last
pub comes_last : {A : Type 0} (test : A → Bool) (xs : List A) (x : A) → position test xs ≡ None → cond (list_any test xs) xs (xs ++ x ∷ []) ≡ xs ++ x ∷ []
comes_last test xs x h = ap (λ b. cond b xs (xs ++ x ∷ [])) (nowhere test xs h)
