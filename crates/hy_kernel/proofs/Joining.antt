-- Masks joined word by word, bit by bit.
use Rattle.std.proofs.Common.{◌≡◌, ℕ, zero, suc, ◌+◌, ◌-◌, ◌*◌, ◌/◌, ◌%◌, ◌^◌, ◌<◌, ◌≤◌, Bool, true, false, ◌⊎◌, List, length, get_or, refl, sym, ap, ◌∙◌, arith, inl, inr, subst}
use Rattle.std.specs.Prelude.{◌==◌, ◌&&◌, ◌||◌, not, min, max, nat_lt, bit_and, bit_or}
use Rattle.std.specs.Int.{bit_at, bit_not, w64}
use Rattle.std.proofs.lemmas.Bool.{cases_lt, lt-ltb, le-ltb}
use Rattle.std.proofs.lemmas.List.{get_or_past}
use Rattle.std.proofs.lemmas.Nat.Bits.{bit_at_and, bit_at_or, bit_at-lt, bit_at-zero, bit_at_not, bit_at_ones, bit_at_ones_above}
use Rattle.hy_kernel.specs.Bits.{is_bit}

two : (x : ℕ) → x < 2 → (x ≡ 0) ⊎ (x ≡ 1)
two zero h = inl refl
two (suc zero) h = inr refl
two (suc (suc x)) h = absurd (omega arith)

-- what holds of zeros and ones holds of numbers below 2
each : (P : ℕ → ℕ → Type 0) → P 0 0 → P 0 1 → P 1 0 → P 1 1 → (x y : ℕ) → x < 2 → y < 2 → P x y
each P a b c d x y h k =
    elim (two x h) [
      | inl e ↦ subst (λ (m : ℕ). P m y) (sym e) (elim (two y k) [ inl f ↦ subst (P 0) (sym f) a | inr f ↦ subst (P 0) (sym f) b ])
      | inr e ↦ subst (λ (m : ℕ). P m y) (sym e) (elim (two y k) [ inl f ↦ subst (P 1) (sym f) c | inr f ↦ subst (P 1) (sym f) d ])
    ]

pub both : (x y : ℕ) → x < 2 → y < 2 → (min x y == 1) ≡ ((x == 1) && (y == 1))
both = each (λ x y. (min x y == 1) ≡ ((x == 1) && (y == 1))) refl refl refl refl

either : (x y : ℕ) → x < 2 → y < 2 → (max x y == 1) ≡ ((x == 1) || (y == 1))
either = each (λ x y. (max x y == 1) ≡ ((x == 1) || (y == 1))) refl refl refl refl

-- each word is one of two joined by `and`
pub and_bits : (old other new : List ℕ) (i : ℕ) → get_or new (i / 64) 0 ≡ bit_and (get_or old (i / 64) 0) (get_or other (i / 64) 0)
    → is_bit new i ≡ (is_bit old i && is_bit other i)
and_bits old other new i e =
    ap (λ (w : ℕ). bit_at w (i % 64) == 1) e
    ∙ (ap (λ (n : ℕ). n == 1) (bit_at_and (get_or old (i / 64) 0) (get_or other (i / 64) 0) (i % 64))
    ∙ both (bit_at (get_or old (i / 64) 0) (i % 64)) (bit_at (get_or other (i / 64) 0) (i % 64)) (bit_at-lt (get_or old (i / 64) 0) (i % 64)) (bit_at-lt (get_or other (i / 64) 0) (i % 64)))

pub or_bits : (old other new : List ℕ) (i : ℕ) → get_or new (i / 64) 0 ≡ bit_or (get_or old (i / 64) 0) (get_or other (i / 64) 0)
    → is_bit new i ≡ (is_bit old i || is_bit other i)
or_bits old other new i e =
    ap (λ (w : ℕ). bit_at w (i % 64) == 1) e
    ∙ (ap (λ (n : ℕ). n == 1) (bit_at_or (get_or old (i / 64) 0) (get_or other (i / 64) 0) (i % 64))
    ∙ either (bit_at (get_or old (i / 64) 0) (i % 64)) (bit_at (get_or other (i / 64) 0) (i % 64)) (bit_at-lt (get_or old (i / 64) 0) (i % 64)) (bit_at-lt (get_or other (i / 64) 0) (i % 64)))

-- behind the last word there is nothing to join
pub joined_past : (f : ℕ → ℕ → ℕ) → f 0 0 ≡ 0 → (old other : List ℕ) (k : ℕ) → length old ≤ k → length other ≤ k → get_or old k 0 ≡ f (get_or old k 0) (get_or other k 0)
joined_past f e old other k l m =
    get_or_past old k 0 l ∙ sym (ap (λ (a : ℕ). f a (get_or other k 0)) (get_or_past old k 0 l) ∙ (ap (f 0) (get_or_past other k 0 m) ∙ e))

-- behind the last word no bit is set
pub past_bits : (words : List ℕ) (i : ℕ) → length words ≤ i / 64 → is_bit words i ≡ false
past_bits words i l = ap (λ (w : ℕ). bit_at w (i % 64) == 1) (get_or_past words (i / 64) 0 l) ∙ ap (λ (n : ℕ). n == 1) (bit_at-zero (i % 64))

pub turned : (x : ℕ) → x < 2 → (1 - x == 1) ≡ not (x == 1)
turned x h = elim (two x h) [ inl e ↦ subst (λ (m : ℕ). (1 - m == 1) ≡ not (m == 1)) (sym e) refl | inr e ↦ subst (λ (m : ℕ). (1 - m == 1) ≡ not (m == 1)) (sym e) refl ]

-- a bit of a word without those of another
pub bit_without : (one two j : ℕ) → two < 2 ^ 64 → j < 64 → (bit_at (bit_and one (bit_not w64 two)) j == 1) ≡ ((bit_at one j == 1) && not (bit_at two j == 1))
bit_without one two j fits within =
    ap (λ (x : ℕ). x == 1) (bit_at_and one (bit_not w64 two) j)
    ∙ (both (bit_at one j) (bit_at (bit_not w64 two) j) (bit_at-lt one j) (bit_at-lt (bit_not w64 two) j)
    ∙ ap (λ (b : Bool). (bit_at one j == 1) && b) (ap (λ (x : ℕ). x == 1) (bit_at_not w64 two j fits within) ∙ turned (bit_at two j) (bit_at-lt two j)))

-- each word is one of two, without the bits of the other
pub without_bits : (old other new : List ℕ) (i : ℕ) → get_or other (i / 64) 0 < 2 ^ 64
    → get_or new (i / 64) 0 ≡ bit_and (get_or old (i / 64) 0) (bit_not w64 (get_or other (i / 64) 0)) → is_bit new i ≡ (is_bit old i && not (is_bit other i))
without_bits old other new i fits e =
    ap (λ (w : ℕ). bit_at w (i % 64) == 1) e ∙ bit_without (get_or old (i / 64) 0) (get_or other (i / 64) 0) (i % 64) fits (omega arith)

and_true : (b : Bool) → (b && true) ≡ b
and_true true = refl
and_true false = refl

and_false : (b : Bool) → (b && false) ≡ false
and_false true = refl
and_false false = refl

place : (i : ℕ) → (64 * (i / 64) + i % 64 ≡ i) × (i % 64 < 64)
place i = (omega arith, omega arith)

-- a word is turned about as far as there are bits
pub not_bits : (old new : List ℕ) (bits i : ℕ) → get_or old (i / 64) 0 < 2 ^ 64 → get_or new (i / 64) 0 ≡ bit_and (2 ^ 64 - 1 - get_or old (i / 64) 0) (2 ^ min (bits - 64 * (i / 64)) 64 - 1)
    → is_bit new i ≡ (nat_lt i bits && not (is_bit old i))
not_bits old new bits i fits e =
    let word = get_or old (i / 64) 0 in
    let n = min (bits - 64 * (i / 64)) 64 in
    let at = place i in
    let joined : is_bit new i ≡ ((bit_at (bit_not w64 word) (i % 64) == 1) && (bit_at (2 ^ n - 1) (i % 64) == 1)) =
    ap (λ (w : ℕ). bit_at w (i % 64) == 1) e
    ∙ (ap (λ (m : ℕ). m == 1) (bit_at_and (bit_not w64 word) (2 ^ n - 1) (i % 64))
    ∙ both (bit_at (bit_not w64 word) (i % 64)) (bit_at (2 ^ n - 1) (i % 64)) (bit_at-lt (bit_not w64 word) (i % 64)) (bit_at-lt (2 ^ n - 1) (i % 64))) in
    let other : (bit_at (bit_not w64 word) (i % 64) == 1) ≡ not (is_bit old i) =
    ap (λ (m : ℕ). m == 1) (bit_at_not w64 word (i % 64) fits at.1) ∙ turned (bit_at word (i % 64)) (bit_at-lt word (i % 64)) in
    elim (cases_lt i bits) [
      | inl less ↦
          let inside : i % 64 < n = omega (arith, at.0, at.1) in
          joined ∙ (ap (λ (m : ℕ). (bit_at (bit_not w64 word) (i % 64) == 1) && (m == 1)) (bit_at_ones n (i % 64) inside)
          ∙ (and_true (bit_at (bit_not w64 word) (i % 64) == 1) ∙ (other ∙ sym (ap (λ (b : Bool). b && not (is_bit old i)) (lt-ltb i bits less)))))
      | inr more ↦
          let outside : n ≤ i % 64 = omega (arith, at.0, at.1) in
          joined ∙ (ap (λ (m : ℕ). (bit_at (bit_not w64 word) (i % 64) == 1) && (m == 1)) (bit_at_ones_above n (i % 64) outside)
          ∙ (and_false (bit_at (bit_not w64 word) (i % 64) == 1) ∙ sym (ap (λ (b : Bool). b && not (is_bit old i)) (le-ltb i bits more))))
    ]

-- no bit is left behind the last
pub behind_bits : (bits i : ℕ) (b : Bool) → bits ≤ i → (nat_lt i bits && b) ≡ false
behind_bits bits i b le = ap (λ (c : Bool). c && b) (le-ltb i bits le)
