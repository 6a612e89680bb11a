-- The first of numbers that are hit, and the first element of a list that passes a test.
use Rattle.std.proofs.Common.{◌≡◌, ◌⊎◌, ℕ, ◌<◌, ◌≤◌, List, [], ◌∷◌, length, get_or, refl, sym, ap, ◌∙◌, inl, inr, arith, subst}
use Rattle.std.specs.Prelude.{min, Bool, true, false, cond, ltb, Option, None, Some, slice_get}
use Rattle.std.specs.Option.{option_map_or}
use Rattle.std.specs.List.{position, position_or_len}
use Rattle.std.proofs.lemmas.Bool.{cases_lt, false_from_ne_true}
use Rattle.std.proofs.lemmas.List.Sums.{position_or_len_is}
use Rattle.std.proofs.lemmas.Option.{slice_get-get_or, slice_get_within}
use Rattle.hy_validate.specs.TreeHits.{Finds, earlier_of}

-- what is found among some is found where there are no others that are hit
pub finds_there : (is_hit : ℕ → Bool) (S R : ℕ → Type 0) (a : Option ℕ) → Finds is_hit S a → ((n : ℕ) → R n → is_hit n ≡ true → S n) → Finds is_hit R a
finds_there is_hit S R a p f = record { hit = p.hit; least = λ n r t. p.least n (f n r t) t }

-- nothing is found where none is hit
pub finds_none : (is_hit : ℕ → Bool) (S : ℕ → Type 0) → ((n : ℕ) → S n → is_hit n ≡ true → ⊥) → Finds is_hit S None
finds_none is_hit S f = record { hit = tt; least = f }

-- the earlier of what is found among some and of what is found among others
pub finds_both : (is_hit : ℕ → Bool) (S T R : ℕ → Type 0) (a b : Option ℕ) → Finds is_hit S a → Finds is_hit T b
    → ((n : ℕ) → R n → is_hit n ≡ true → S n ⊎ T n) → Finds is_hit R (earlier_of a b)
finds_both is_hit S T R None b p q f =
    finds_there is_hit T R b q (λ n r t. elim (f n r t) [ inl s ↦ absurd (p.least n s t) | inr s ↦ s ])
finds_both is_hit S T R (Some k) None p q f =
    finds_there is_hit S R (Some k) p (λ n r t. elim (f n r t) [ inl s ↦ s | inr s ↦ absurd (q.least n s t) ])
finds_both is_hit S T R (Some k) (Some m) p q f = by (cases_lt m k)
  where
    up : (n : ℕ) → R n → is_hit n ≡ true → min k m ≤ n
    up n r t = elim (f n r t) [ inl s ↦ (let b = p.least n s t in omega arith) | inr s ↦ (let b = q.least n s t in omega arith) ]

    by : (m < k) ⊎ (k ≤ m) → Finds is_hit R (Some (min k m))
    by (inl l) = let e : m ≡ min k m = omega arith in record { hit = subst (λ i. is_hit i ≡ true) e q.hit; least = up }
    by (inr l) = let e : k ≡ min k m = omega arith in record { hit = subst (λ i. is_hit i ≡ true) e p.hit; least = up }

placed : {X : Type 0} (p : X → Bool) (xs : List X) (i : ℕ) (b : Bool) → position_or_len p xs ≡ i → ltb i (length xs) ≡ b
    → cond b (Some i) None ≡ position p xs
placed p xs i b e t = ap (λ c. cond c (Some i) None) (sym t) ∙ ap (λ n. cond (ltb n (length xs)) (Some n) None) (sym e)

-- the element at an index within passes where the one that is there does
passes : {X : Type 0} (p : X → Bool) (xs : List X) (i : ℕ) (d : X) → i < length xs → option_map_or p (slice_get xs i) false ≡ p (get_or xs i d)
passes p xs i d h = ap (λ o. option_map_or p o false) (slice_get-get_or xs i d h)

-- what passes is there
within_of : {X : Type 0} (p : X → Bool) (xs : List X) (i : ℕ) → option_map_or p (slice_get xs i) false ≡ true → i < length xs
within_of {X} p xs i h = by (slice_get xs i) refl
  where
    by : (o : Option X) → slice_get xs i ≡ o → i < length xs
    by None e = let f : false ≡ true = sym (ap (λ o. option_map_or p o false) e) ∙ h in cc
    by (Some x) e = slice_get_within xs i x e

-- the first number that is hit is the position of the first element that passes, where all are asked
pub finds_position : {X : Type 0} (p : X → Bool) (xs : List X) (found : Option ℕ) (S : ℕ → Type 0)
    → Finds (λ n. option_map_or p (slice_get xs n) false) S found → ((n : ℕ) → n < length xs → S n) → found ≡ position p xs
finds_position p [] None S finds all = refl
finds_position p [] (Some m) S finds all = let l = within_of p [] m finds.hit in absurd (omega arith)
finds_position p (x ∷ xs) None S finds all =
    placed p (x ∷ xs) (length (x ∷ xs)) false
    (position_or_len_is p (x ∷ xs) (length (x ∷ xs)) x (omega arith)
    (λ k l. false_from_ne_true _ (λ t. finds.least k (all k l) (passes p (x ∷ xs) k x l ∙ t))) (λ l. absurd (omega arith)))
    (grind arith)
finds_position p (x ∷ xs) (Some m) S finds all =
    let l : m < length (x ∷ xs) = within_of p (x ∷ xs) m finds.hit in
    placed p (x ∷ xs) m true
    (position_or_len_is p (x ∷ xs) m x (omega arith)
    (λ k below. false_from_ne_true _ (λ t.
    let in' : k < length (x ∷ xs) = omega arith in
    let up = finds.least k (all k in') (passes p (x ∷ xs) k x in' ∙ t) in absurd (omega arith)))
    (λ _. sym (passes p (x ∷ xs) m x l) ∙ finds.hit))
    (grind arith)
