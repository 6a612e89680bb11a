-- How many of some times are below another one, where they ascend.
use Rattle.std.proofs.Common.{◌≡◌, ℕ, zero, suc, ◌<◌, ◌≤◌, Bool, true, false, List, [], ◌∷◌, length, get_or, refl, sym, ap, ◌∙◌, cond, inl, inr, arith}
use Rattle.std.specs.Prelude.{◌==◌, count_by, nat_lt, not as negated}
use Rattle.std.specs.List.Sorted.{IsNonDecreasing, IsPartitionPoint}
use Rattle.std.proofs.lemmas.Bool.{cases_lt, lt-ltb, le-ltb, ne_eqb}
use Rattle.std.proofs.lemmas.List.Elements.{All-from_recursion}
use Rattle.std.proofs.lemmas.List.Sums.{sum_by-cons}
use Rattle.hy_prune.specs.OpenStarts.{Rise}

pub ascends : (starts : List ℕ) → Rise starts → IsNonDecreasing starts
ascends [] rise i j d le m = absurd (omega arith)
ascends (s ∷ ss) rise zero zero d le m = omega arith
ascends (s ∷ ss) rise zero (suc j) d le m = let h = All-from_recursion (λ later. s < later) ss rise.0 j d (omega (arith, m)) in omega (arith, h)
ascends (s ∷ ss) rise (suc i) zero d le m = absurd (omega (arith, le))
ascends (s ∷ ss) rise (suc i) (suc j) d le m = ascends ss rise.1 i j d (omega (arith, le)) (omega (arith, m))

passes : {X : Type 0} (p : X → Bool) (x : X) (xs : List X) → p x ≡ true → count_by p (x ∷ xs) ≡ suc (count_by p xs)
passes p x xs h =
    let e = sum_by-cons (λ y. cond (p y) 1 0) x xs in
    let c : ◌≡◌ {A = ℕ} (cond (p x) 1 0) 1 = ap (λ (b : Bool). cond b 1 0) h in
    omega (arith, e, c)

fails : {X : Type 0} (p : X → Bool) (x : X) (xs : List X) → p x ≡ false → count_by p (x ∷ xs) ≡ count_by p xs
fails p x xs h =
    let e = sum_by-cons (λ y. cond (p y) 1 0) x xs in
    let c : ◌≡◌ {A = ℕ} (cond (p x) 1 0) 0 = ap (λ (b : Bool). cond b 1 0) h in
    omega (arith, e, c)

-- a partition point is how many pass
pub counted : {X : Type 0} (p : X → Bool) (xs : List X) (i : ℕ) → i ≤ length xs → IsPartitionPoint (λ y. p y ≡ true) (λ y. p y ≡ false) xs i → i ≡ count_by p xs
counted p [] zero le at = refl
counted p [] (suc i) le at = absurd (omega arith)
counted p (x ∷ xs) zero le at =
    let rest = counted p xs zero (omega arith) (λ k d l m. absurd (omega (arith, m)), λ k d l m. at.1 (suc k) d (omega arith) (omega (arith, m))) in
    let e = fails p x xs (at.1 zero x (omega arith) (omega arith)) in
    omega (arith, rest, e)
counted p (x ∷ xs) (suc i) le at =
    let rest = counted p xs i (omega arith) (λ k d l m. at.0 (suc k) d (omega arith) (omega (arith, m)), λ k d l m. at.1 (suc k) d (omega (arith, l)) (omega (arith, m))) in
    let e = passes p x xs (at.0 zero x (omega arith) (omega arith)) in
    omega (arith, rest, e)

-- at or above a time, none is below it
none_passes : {X : Type 0} (p : X → Bool) (xs : List X) → ((k : ℕ) (d : X) → k < length xs → p (get_or xs k d) ≡ false) → count_by p xs ≡ 0
none_passes p [] h = refl
none_passes p (x ∷ xs) h =
    let e = fails p x xs (h zero x (omega arith)) in
    let rest = none_passes p xs (λ k d l. h (suc k) d (omega (arith, l))) in
    omega (arith, e, rest)

-- of times that ascend one is below another time where the first is
pub first_tells : (starts : List ℕ) (first time : ℕ) → IsNonDecreasing starts → 0 < length starts → first ≡ get_or starts 0 first
    → nat_lt first time ≡ negated (count_by (λ start. nat_lt start time) starts == 0)
first_tells [] first time up some is = absurd (omega arith)
first_tells (s ∷ ss) first time up some is =
    elim (cases_lt s time) [
      | inl less ↦
          let here : nat_lt s time ≡ true = lt-ltb s time less in
          let more = passes (λ start. nat_lt start time) s ss here in
          let some : (count_by (λ start. nat_lt start time) (s ∷ ss) == 0) ≡ false = ne_eqb _ 0 (λ e. absurd (omega (arith, more, e))) in
          ap (λ (n : ℕ). nat_lt n time) is ∙ (here ∙ sym (ap negated some))
      | inr more ↦
          let none = none_passes (λ start. nat_lt start time) (s ∷ ss) (λ k d l. le-ltb _ time (let e = up zero k d (omega arith) l in omega (arith, e, more))) in
          ap (λ (n : ℕ). nat_lt n time) is ∙ (le-ltb s time more ∙ sym (ap (λ (n : ℕ). negated (n == 0)) none))
    ]
