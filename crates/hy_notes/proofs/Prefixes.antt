-- How many notes from the front on pass a test.
use Rattle.std.proofs.Common.{◌≡◌, ℕ, zero, suc, ◌+◌, ◌≤◌, Bool, true, false, List, [], ◌∷◌, length, refl, sym, ap, cond, arith}
use Rattle.std.specs.List.{prefix_len}
use Rattle.std.specs.List.Sorted.{IsPartitionPoint}

-- a partition point is as many as pass from the front on
pub prefix_is : {X : Type 0} (p : X → Bool) (xs : List X) (i : ℕ) → i ≤ length xs → IsPartitionPoint (λ y. p y ≡ true) (λ y. p y ≡ false) xs i → i ≡ prefix_len p xs
prefix_is p [] zero le at = refl
prefix_is p [] (suc i) le at = absurd (omega arith)
prefix_is {X} p (x ∷ xs) zero le at =
    let fails : p x ≡ false = at.1 zero x (omega arith) (omega arith) in
    sym (ap (λ (b : Bool). cond b (1 + prefix_len p xs) 0) fails)
prefix_is {X} p (x ∷ xs) (suc i) le at =
    let passes : p x ≡ true = at.0 zero x (omega arith) (omega arith) in
    let rest = prefix_is p xs i (omega arith) (λ k d l m. at.0 (suc k) d (omega arith) (omega (arith, m)), λ k d l m. at.1 (suc k) d (omega (arith, l)) (omega (arith, m))) in
    let first : ◌≡◌ {A = ℕ} (prefix_len p (x ∷ xs)) (1 + prefix_len p xs) = ap (λ (b : Bool). cond b (1 + prefix_len p xs) 0) passes in
    omega (arith, rest, first)

-- with a first one that passes, and with one that fails
pub passes : {X : Type 0} (p : X → Bool) (x : X) (xs : List X) → p x ≡ true → prefix_len p (x ∷ xs) ≡ suc (prefix_len p xs)
passes p x xs h = let e : ◌≡◌ {A = ℕ} (prefix_len p (x ∷ xs)) (1 + prefix_len p xs) = ap (λ (b : Bool). cond b (1 + prefix_len p xs) 0) h in omega (arith, e)

pub fails : {X : Type 0} (p : X → Bool) (x : X) (xs : List X) → p x ≡ false → prefix_len p (x ∷ xs) ≡ zero
fails p x xs h = ap (λ (b : Bool). cond b (1 + prefix_len p xs) 0) h
