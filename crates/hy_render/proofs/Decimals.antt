-- The digits of numbers, two and four at a time.
use Rattle.std.proofs.Common.{◌≡◌, ℕ, zero, suc, ◌+◌, ◌-◌, ◌*◌, ◌/◌, ◌%◌, ◌^◌, ◌<◌, ◌≤◌, Bool, true, ◌&&◌, T, eqb, List, [], ◌∷◌, ◌++◌, get_or, ap, sym, ◌∙◌, inl, inr, arith, eq-zero-or-pos, eqb→eq, append_assoc}
use Rattle.std.proofs.lemmas.Fmt.{decimal_digit, decimal_step}
use Rattle.std.specs.Fmt.{decimal}
use lib.Ieee.Fits.{and_l, and_r}
use Rattle.hy_render.specs.declared.digits.TheConstants.{PAIRS}
use Rattle.hy_render.specs.Digits.{two_digits, four_digits}

abbrev are_pairs : ℕ → Bool
are_pairs zero = true
are_pairs (suc p) = (eqb (get_or PAIRS (p * 2) 0) (48 + p / 10) && eqb (get_or PAIRS (p * 2 + 1) 0) (48 + p % 10)) && are_pairs p

below : (n p : ℕ) → T (are_pairs n) → p < n → (get_or PAIRS (p * 2) 0 ≡ 48 + p / 10) × (get_or PAIRS (p * 2 + 1) 0 ≡ 48 + p % 10)
below zero p t h = absurd (omega arith)
below (suc n) p t h =
    elim (eq-zero-or-pos (n - p)) [
      | inl z ↦ let e : p ≡ n = omega arith in let a = and_l _ (are_pairs n) t in rw e (eqb→eq _ _ (and_l _ _ a), eqb→eq _ _ (and_r _ _ a))
      | inr g ↦ below n p (and_r _ (are_pairs n) t) (omega arith)
    ]

-- what the table has of a number
pub pairs_at : (p : ℕ) → p < 100 → (get_or PAIRS (p * 2) 0 ≡ 48 + p / 10) × (get_or PAIRS (p * 2 + 1) 0 ≡ 48 + p % 10)
pairs_at p h = below 100 p tt h

pub decimal_two : (n : ℕ) → 10 ≤ n → n < 100 → decimal n ≡ two_digits n
decimal_two n lo hi = rw (decimal_step n lo (omega arith), decimal_digit (n / 10) (omega arith))

decimal_pair : (n : ℕ) → 100 ≤ n → n < 2 ^ 64 → decimal n ≡ decimal (n / 100) ++ two_digits (n % 100)
decimal_pair n lo hi =
    let a : n / 10 / 10 ≡ n / 100 = omega arith in
    let b : n / 10 % 10 ≡ n % 100 / 10 = omega arith in
    let c : n % 10 ≡ n % 100 % 10 = omega arith in
    rw (decimal_step n (omega arith) hi, decimal_step (n / 10) (omega arith) (omega arith), append_assoc, a, b, ← c)

pub decimal_three : (n : ℕ) → 100 ≤ n → n < 1000 → decimal n ≡ (48 + n / 100) ∷ two_digits (n % 100)
decimal_three n lo hi = rw (decimal_pair n lo (omega arith), decimal_digit (n / 100) (omega arith))

pub decimal_four : (n : ℕ) → 1000 ≤ n → n < 10000 → decimal n ≡ four_digits n
decimal_four n lo hi = rw (decimal_pair n (omega arith) (omega arith), decimal_two (n / 100) (omega arith) (omega arith))

-- the last four digits, and those in front of them
pub decimal_long : (n : ℕ) → 10000 ≤ n → n < 2 ^ 64 → decimal n ≡ decimal (n / 10000) ++ four_digits (n % 10000)
decimal_long n lo hi =
    let a : n / 100 / 100 ≡ n / 10000 = omega arith in
    let b : n / 100 % 100 ≡ n % 10000 / 100 = omega arith in
    let c : n % 10000 % 100 ≡ n % 100 = omega arith in
    rw (decimal_pair n (omega arith) hi, decimal_pair (n / 100) (omega arith) (omega arith), append_assoc, a, b, c)

-- a number that is printed some digits at a time
pub pushed_one : (out after : List ℕ) (n a : ℕ) → n < 10 → a ≡ 48 + n → after ≡ out ++ a ∷ [] → after ≡ out ++ decimal n
pushed_one out after n a hi f e = rw (e, f, decimal_digit n hi)

pub pushed_two : (out after : List ℕ) (n : ℕ) → 10 ≤ n → n < 100 → after ≡ out ++ two_digits n → after ≡ out ++ decimal n
pushed_two out after n lo hi e = e ∙ ap (λ (xs : List ℕ). out ++ xs) (sym (decimal_two n lo hi))

pub pushed_three : (out middle after : List ℕ) (n a : ℕ) → 100 ≤ n → n < 1000 → a ≡ 48 + n / 100 → middle ≡ out ++ a ∷ [] → after ≡ middle ++ two_digits (n % 100)
    → after ≡ out ++ decimal n
pushed_three out middle after n a lo hi f e g = rw (g, e, f, append_assoc, decimal_three n lo hi)

pub pushed_four : (out middle after : List ℕ) (n : ℕ) → 1000 ≤ n → n < 10000 → middle ≡ out ++ two_digits (n / 100) → after ≡ middle ++ two_digits (n % 100)
    → after ≡ out ++ decimal n
pushed_four out middle after n lo hi e f = rw (f, e, append_assoc, decimal_four n lo hi)

-- two digits, one by one
pub pushed_pair : (out middle after : List ℕ) (n a b : ℕ) → a ≡ 48 + n / 10 → b ≡ 48 + n % 10 → middle ≡ out ++ a ∷ [] → after ≡ middle ++ b ∷ [] → after ≡ out ++ two_digits n
pushed_pair out middle after n a b f g e h = rw (h, e, f, g, append_assoc)

-- the digits in front, and then the last four
pub printed_long : (out middle after : List ℕ) (n : ℕ) → 10000 ≤ n → n < 100000000 → middle ≡ out ++ decimal (n / 10000) → after ≡ middle ++ four_digits (n % 10000)
    → after ≡ out ++ decimal n
printed_long out middle after n lo hi e f =
    f ∙ (ap (λ (xs : List ℕ). xs ++ four_digits (n % 10000)) e ∙ (append_assoc out (decimal (n / 10000)) (four_digits (n % 10000))
    ∙ ap (λ (xs : List ℕ). out ++ xs) (sym (decimal_long n lo (omega arith)))))
