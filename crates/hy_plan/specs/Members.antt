-- Which columns a set has that is given by its members.
use Rattle.std.proofs.Common.{◌≡◌, ℕ, ◌+◌, ◌-◌, ◌*◌, ◌^◌, ◌<◌, zero, suc, List, map, refl, ◌∙◌, ap, sym, subst, arith, ⊎_elim, add-one}
use Rattle.std.specs.Prelude.{Bool, true, false, ◌&&◌, ◌==◌, nat_lt, if◌then◌else◌, sum}
use Rattle.std.specs.Int.{bit_at}
use Rattle.std.specs.List.{range_with_len}
use Rattle.std.proofs.Math.Nat.{two-pow-succ}
use Rattle.std.proofs.lemmas.Bool.{lt-ltb, le-ltb, cases_lt}
use Rattle.std.proofs.lemmas.List.FromFn.{sum_by-map-range_with_len_more}
use Rattle.std.proofs.lemmas.Nat.Bits.{bit_at_above, bit_at_cat_low, bit_at_cat_high}
use Rattle.hy_value.specs.Columns.{has_column}
use Rattle.hy_bound.specs.Agreement.{is_named}
use Rattle.hy_plan.specs.ColumnSets.{bits_where, columns_where, named_columns}

-- a bit that is set where this is true
abbrev pub bit_if : Bool → ℕ
bit_if b = if b then 1 else 0

weight : (b : Bool) (power : ℕ) → (if b then power else 0) ≡ bit_if b * power
weight true power = omega arith
weight false power = omega arith

-- one more bit stands above the others
bits_more : (n : ℕ) (test : ℕ → Bool) → bits_where (suc n) test ≡ bit_if (test n) * 2 ^ n + bits_where n test
unfolding bits_where
bits_more n test =
    let power : ℕ → ℕ = λ bit. if test bit then 2 ^ bit else 0 in
    let more : sum (map power (range_with_len 0 (suc n))) ≡ sum (map power (range_with_len 0 n)) + power n =
    ap (λ k. sum (map power (range_with_len 0 k))) (sym (add-one n)) ∙ sum_by-map-range_with_len_more (λ x. x) power 0 n n (omega arith) in
    let last : power n ≡ bit_if (test n) * 2 ^ n = weight (test n) (2 ^ n) in
    omega arith

fits_twice : (b : Bool) (power number : ℕ) → number < power → bit_if b * power + number < power + power
fits_twice true power number h = omega arith
fits_twice false power number h = omega arith

pub bits_fit : (n : ℕ) (test : ℕ → Bool) → bits_where n test < 2 ^ n
unfolding bits_where
bits_fit zero test = omega arith
bits_fit (suc n) test =
    let h = fits_twice (test n) (2 ^ n) (bits_where n test) (bits_fit n test) in
    omega (arith, h, bits_more n test, two-pow-succ n)

bit_alone : (b : Bool) → bit_at (bit_if b) 0 ≡ bit_if b
bit_alone true = refl
bit_alone false = refl

-- the highest bit
highest : (n : ℕ) (test : ℕ → Bool) → bit_at (bits_where (suc n) test) n ≡ bit_if (test n)
highest n test =
    let e : n - n ≡ 0 = omega arith in
    ap (λ m. bit_at m n) (bits_more n test)
    ∙ (bit_at_cat_high (bit_if (test n)) n (bits_where n test) n (bits_fit n test) (omega arith)
    ∙ (ap (bit_at (bit_if (test n))) e ∙ bit_alone (test n)))

bit_below : (n : ℕ) (test : ℕ → Bool) (k : ℕ) → k < n → bit_at (bits_where n test) k ≡ bit_if (test k)
bit_below zero test k h = absurd (omega arith)
bit_below (suc n) test k h =
    ⊎_elim
    (λ low. ap (λ m. bit_at m k) (bits_more n test) ∙ (bit_at_cat_low (bit_if (test n)) n (bits_where n test) k low ∙ bit_below n test k low))
    (λ high. let e : n ≡ k = omega arith in
    let P : ℕ → Type 0 = λ j. bit_at (bits_where (suc n) test) j ≡ bit_if (test j) in
    subst P e (highest n test))
    (cases_lt k n)

-- the bits of a number that is given by them
pub bit_where : (n : ℕ) (test : ℕ → Bool) (k : ℕ) → bit_at (bits_where n test) k ≡ bit_if (nat_lt k n && test k)
bit_where n test k =
    ⊎_elim
    (λ below. bit_below n test k below ∙ ap (λ b. bit_if (b && test k)) (sym (lt-ltb k n below)))
    (λ above. bit_at_above (bits_where n test) n k (bits_fit n test) above ∙ ap (λ b. bit_if (b && test k)) (sym (le-ltb k n above)))
    (cases_lt k n)

bit_read : (near is : Bool) → (near && bit_if (near && is) == 1) ≡ (near && is)
bit_read true true = refl
bit_read true false = refl
bit_read false is = refl

-- a set has the columns below 32 of which its test is true
has_where : (test : ℕ → Bool) (column : ℕ) → has_column (columns_where test) column ≡ (nat_lt column 32 && test column)
unfolding columns_where
has_where test column = ap (λ bit. nat_lt column 32 && bit == 1) (bit_where 32 test column) ∙ bit_read (nat_lt column 32) (test column)

-- and so the columns of a table that are named
pub has_named : (from width : ℕ) (named : List ℕ) (column : ℕ)
    → has_column (named_columns from width named) column ≡ (nat_lt column 32 && (nat_lt column width && is_named named (from + column)))
unfolding named_columns
has_named from width named column = has_where (λ c. nat_lt c width && is_named named (from + c)) column
