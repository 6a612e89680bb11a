-- The number of digits, one after the other.
use Rattle.std.proofs.Common.{◌≡◌, ℕ, ◌+◌, ◌-◌, ◌*◌, ◌<◌, ◌≤◌, false, None, List, [], ◌∷◌, length, get_or, drop, refl, sym, ◌∙◌, arith, add-one, drop-cons}
use Rattle.std.proofs.lemmas.Bool.{lt-leb}
use Rattle.std.specs.Prelude.{nat_le}
use Rattle.hy_bind.specs.Literals.{number_after, in_reach}

-- more digits make no number smaller
number_after-≥ : (n : ℕ) (digits : List ℕ) → n ≤ number_after n digits
number_after-≥ n [] = omega arith
number_after-≥ n (digit ∷ digits) = let more = number_after-≥ (10 * n + (digit - 48)) digits in omega (arith, more)

pub next_digit : (n : ℕ) (digits : List ℕ) (i total : ℕ) → i < length digits → number_after n (drop i digits) ≡ total → number_after (10 * n + (get_or digits i 0 - 48)) (drop (i + 1) digits) ≡ total
next_digit n digits i total lt so_far = let e : number_after n (drop i digits) ≡ number_after (10 * n + (get_or digits i 0 - 48)) (drop (i + 1) digits) = rw (add-one, drop-cons digits i 0 lt) refl in sym e ∙ so_far

-- a number that is too large stays so
pub too_large : (n : ℕ) (digits : List ℕ) (total : ℕ) → 9223372036854775808 < n → number_after n digits ≡ total → in_reach total ≡ None
too_large n digits total large is =
    let more = number_after-≥ n digits in
    let past : nat_le total 9223372036854775808 ≡ false = lt-leb total 9223372036854775808 (omega (arith, more, is)) in
    rw past refl
