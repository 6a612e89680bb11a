-- The first position of a chunk that is free, as the chunk finds it and as the machine does.
use Rattle.std.proofs.Common.{◌≡◌, ℕ, zero, suc, ◌+◌, List, [], ◌∷◌, length, Option, None, Some, Bool, true, false, not}
use Rattle.std.proofs.Common.{refl, sym, ap, ◌∙◌, arith, inl, inr, cond, position, option_map}
use Rattle.std.specs.Prelude.{find, slice_get, nat_lt}
use Rattle.std.specs.List.{position_or_len, range_with_len}
use Rattle.std.proofs.lemmas.Bool.{cases_lt, lt-ltb, le-ltb}
use Rattle.std.proofs.lemmas.List.Quantifiers.{position-Some}
use Rattle.std.proofs.lemmas.Option.{get_or_from_slice_get}

-- ---- where a test first passes

position_next : {A : Type 0} (test : A → Bool) (x : A) (xs : List A)
    → position test (x ∷ xs) ≡ cond (test x) (Some 0) (option_map (λ (n : ℕ). suc n) (position test xs))
position_next test x xs = by_test (test x)
  where
    by_rest : (n : ℕ) → cond (nat_lt (suc n) (suc (length xs))) (Some (suc n)) None
        ≡ option_map (λ (n : ℕ). suc n) (cond (nat_lt n (length xs)) (Some n) None)
    by_rest n = elim (cases_lt n (length xs)) [
      | inl below ↦
          ap (λ (b : Bool). cond b (Some (suc n)) None) (lt-ltb (suc n) (suc (length xs)) (omega (arith, below)))
          ∙ sym (ap (λ (b : Bool). option_map (λ (n : ℕ). suc n) (cond b (Some n) None)) (lt-ltb n (length xs) below))
      | inr past ↦
          ap (λ (b : Bool). cond b (Some (suc n)) None) (le-ltb (suc n) (suc (length xs)) (omega (arith, past)))
          ∙ sym (ap (λ (b : Bool). option_map (λ (n : ℕ). suc n) (cond b (Some n) None)) (le-ltb n (length xs) past))
    ]

    by_test : (b : Bool)
        → cond (nat_lt (cond (not b) (1 + position_or_len test xs) 0) (suc (length xs))) (Some (cond (not b) (1 + position_or_len test xs) 0)) None
        ≡ cond b (Some 0) (option_map (λ (n : ℕ). suc n) (position test xs))
    by_test true = ap (λ (b : Bool). cond b (Some 0) None) (lt-ltb 0 (suc (length xs)) (omega arith))
    by_test false =
        ap (λ (n : ℕ). cond (nat_lt n (suc (length xs))) (Some n) None)
        (let e : 1 + position_or_len test xs ≡ suc (position_or_len test xs) = omega arith in e)
        ∙ by_rest (position_or_len test xs)

-- where numbers from the first one on are tested as the elements are, the first number that passes is that of the first element
pub same_first : {A : Type 0} (test : A → Bool) (there : ℕ → Bool) (first : ℕ) (xs : List A) (count : ℕ) → length xs ≡ count
    → ((i : ℕ) (x : A) → slice_get xs i ≡ Some x → there (first + i) ≡ test x)
    → find there (range_with_len first count) ≡ option_map (λ (index : ℕ). first + index) (position test xs)
same_first test there first [] zero long each = refl
same_first test there first [] (suc count) long each = absurd (omega (arith, long))
same_first test there first (x ∷ xs) zero long each = absurd (omega (arith, long))
same_first {A} test there first (x ∷ xs) (suc count) long each =
    ap (λ (b : Bool). cond b (Some first) (find there (range_with_len (first + 1) count))) here
    ∙ (by_test
    (same_first test there (first + 1) xs count (omega (arith, long))
    (λ i y e. ap there (let s : first + 1 + i ≡ first + suc i = omega arith in s) ∙ each (suc i) y e))
    (test x)
    ∙ ap (option_map (λ (index : ℕ). first + index)) (sym (position_next test x xs)))
  where
    here : there first ≡ test x
    here = ap there (let e : first ≡ first + 0 = omega arith in e) ∙ each 0 x refl

    shift : (o : Option ℕ) → option_map (λ (index : ℕ). first + 1 + index) o ≡ option_map (λ (index : ℕ). first + index) (option_map (λ (n : ℕ). suc n) o)
    shift None = refl
    shift (Some n) = ap (λ (m : ℕ). Some m) (let s : first + 1 + n ≡ first + suc n = omega arith in s)

    by_test : find there (range_with_len (first + 1) count) ≡ option_map (λ (index : ℕ). first + 1 + index) (position test xs)
        → (b : Bool) → cond b (Some first) (find there (range_with_len (first + 1) count))
        ≡ option_map (λ (index : ℕ). first + index) (cond b (Some 0) (option_map (λ (n : ℕ). suc n) (position test xs)))
    by_test rest true = ap (λ (n : ℕ). Some n) (let e : first ≡ first + 0 = omega arith in e)
    by_test rest false = rest ∙ shift (position test xs)

-- there it passes
pub first_passes : {A : Type 0} (test : A → Bool) (xs : List A) (i : ℕ) (x : A) → position test xs ≡ Some i → slice_get xs i ≡ Some x → test x ≡ true
first_passes test xs i x e is = ap test (sym (get_or_from_slice_get xs i x x is)) ∙ (position-Some test xs i x e).1
