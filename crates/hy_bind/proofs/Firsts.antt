-- The first of refusals.
use Rattle.std.proofs.Common.{◌≡◌, ℕ, suc, ◌+◌, ◌<◌, Bool, true, false, Option, Some, None, List, ◌∷◌, length, get_or, drop, refl, sym, ap, ◌∙◌, arith, add-one, drop-cons}
use Rattle.std.specs.Prelude.{nat_le, if◌then◌else◌}
use Rattle.std.proofs.lemmas.Bool.{leb-true, leb-false, le-leb, lt-leb}
use Rattle.hy_bind.specs.declared.refusals.BindFault.{BindFault}
use Rattle.hy_bind.specs.Refusals.{rank, first_of}

first_of_three : (x y z : BindFault) (b c : Bool) → nat_le (rank x) (rank y) ≡ b → nat_le (rank y) (rank z) ≡ c
    → first_of (if b then Some x else Some y) (Some z) ≡ first_of (Some x) (if c then Some y else Some z)
first_of_three x y z true true h k =
    let all : nat_le (rank x) (rank z) ≡ true = le-leb (rank x) (rank z) (omega (arith, leb-true (rank x) (rank y) h, leb-true (rank y) (rank z) k)) in
    rw (all, h) refl
first_of_three x y z true false h k = refl
first_of_three x y z false true h k = rw (h, k) refl
first_of_three x y z false false h k =
    let none : nat_le (rank x) (rank z) ≡ false = lt-leb (rank x) (rank z) (omega (arith, leb-false (rank x) (rank y) h, leb-false (rank y) (rank z) k)) in
    rw (none, k) refl

-- of three refusals it doesn't matter which two are compared before
pub first_of_assoc : (a b c : Option BindFault) → first_of (first_of a b) c ≡ first_of a (first_of b c)
first_of_assoc None b c = refl
first_of_assoc (Some x) None c = refl
first_of_assoc (Some x) (Some y) None = elim (nat_le (rank x) (rank y)) as (λ b. first_of (if b then Some x else Some y) None ≡ (if b then Some x else Some y)) [ true ↦ refl | false ↦ refl ]
first_of_assoc (Some x) (Some y) (Some z) = first_of_three x y z (nat_le (rank x) (rank y)) (nat_le (rank y) (rank z)) refl refl

-- a refusal so far, of one thing more, and of the rest
pub first_more : (before one rest left all : Option BindFault) → left ≡ first_of one rest → first_of before left ≡ all → first_of (first_of before one) rest ≡ all
first_more before one rest left all splits whole = first_of_assoc before one rest ∙ (ap (first_of before) (sym splits) ∙ whole)

-- what is left of a list begins with the next element
pub drop_next : {A : Type 0} (xs : List A) (i : ℕ) (x : A) → i < length xs → x ≡ get_or xs i x → drop i xs ≡ x ∷ drop (i + 1) xs
drop_next xs i x within is = drop-cons xs i x within ∙ (ap (λ y. y ∷ drop (suc i) xs) (sym is) ∙ ap (λ n. x ∷ drop n xs) (sym (add-one i)))

-- what is said of the rest of a list, the next element first
pub at_next : {A B : Type 0} (f : List A → B) (xs : List A) (i : ℕ) (d : A) → i < length xs → f (drop i xs) ≡ f (get_or xs i d ∷ drop (i + 1) xs)
at_next f xs i d within = ap f (drop-cons xs i d within) ∙ ap (λ n. f (get_or xs i d ∷ drop n xs)) (sym (add-one i))
