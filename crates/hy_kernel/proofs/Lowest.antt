-- The lowest bit that is set, in a word and in words.
use Rattle.std.proofs.Common.{◌≡◌, ℕ, ◌+◌, ◌-◌, ◌*◌, ◌/◌, ◌%◌, ◌^◌, ◌<◌, ◌≤◌, ◌≢◌, true, false, List, get_or, sym, ap, ◌∙◌, arith, inl, inr}
use Rattle.std.specs.Prelude.{◌==◌, bit_and}
use Rattle.std.specs.Int.{bit_at, bit_not, trailing_zeros, w64}
use lib.Pow.{pow-lt}
use native.Mathlib.Nat.{mod-lt}
use Rattle.std.proofs.lemmas.Bool.{cases_eq, cases_lt, both_ways}
use Rattle.std.proofs.lemmas.Nat.{div-add-mod', pow_pos}
use Rattle.std.proofs.lemmas.Nat.Bits.{bit_at_and, bit_at-lt, bit_at-zero, bit_at_not, bit_at_ones, bit_at_ones_above, bit_at-trailing_zeros, bit_at_cat_low, bit_at_cat_high, bit_at-pow_same, bit_at-pow_other, same_from_bits_below}
use Rattle.hy_kernel.specs.Bits.{is_bit, IsLowest, Lies}

-- a word without its bits below one
abbrev pub rest_of : ℕ → ℕ → ℕ
rest_of word from = bit_and word (bit_not w64 (2 ^ from - 1))

module _ (word from : ℕ) (fits : 2 ^ from - 1 < 2 ^ 64) where
  none_left : (i : ℕ) → i < from → i < 64 → bit_at (rest_of word from) i ≡ 0
  none_left i less within =
      let a = bit_at_and word (bit_not w64 (2 ^ from - 1)) i in
      let b = bit_at_not w64 (2 ^ from - 1) i fits within in
      let c = bit_at_ones from i less in
      omega (arith, a, b, c)

  left_as_is : (i : ℕ) → from ≤ i → i < 64 → bit_at (rest_of word from) i ≡ bit_at word i
  left_as_is i more within =
      let a = bit_at_and word (bit_not w64 (2 ^ from - 1)) i in
      let b = bit_at_not w64 (2 ^ from - 1) i fits within in
      let c = bit_at_ones_above from i more in
      let d = bit_at-lt word i in
      omega (arith, a, b, c, d)

  pub lowest_left : 0 < rest_of word from → rest_of word from < 2 ^ 64 → IsLowest word from (trailing_zeros w64 (rest_of word from))
  lowest_left some less =
      let t = bit_at-trailing_zeros w64 (rest_of word from) some less in
      let at = trailing_zeros w64 (rest_of word from) in
      let reached : from ≤ at = elim (cases_lt at from) [
        | inl below ↦ let none = none_left at below t.0 in let one = t.1 in absurd (omega (arith, none, one))
        | inr above ↦ above
      ] in
      record {
        reached = reached;
        within = t.0;
        set = sym (left_as_is at reached t.0) ∙ t.1;
        passed = λ i more less. sym (left_as_is i more (let w = t.0 in omega (arith, w, less))) ∙ t.2 i less;
      }

  pub none_set : rest_of word from ≡ 0 → (i : ℕ) → from ≤ i → i < 64 → bit_at word i ≡ 0
  none_set none i more within = sym (left_as_is i more within) ∙ (ap (λ (n : ℕ). bit_at n i) none ∙ bit_at-zero i)

-- a word whose lowest bit that is set is cleared, as one less does it
module _ (word low : ℕ) (set : bit_at word low ≡ 1) (none : (i : ℕ) → i < low → bit_at word i ≡ 0) where
  abbrev behind : ℕ
  behind = word / 2 ^ (low + 1)

  small : 2 ^ low < 2 ^ (low + 1)
  small = pow-lt {i = low} {j = low + 1} (omega arith)

  lowest_bits : word % 2 ^ (low + 1) ≡ 2 ^ low
  lowest_bits =
      same_from_bits_below (low + 1) (word % 2 ^ (low + 1)) (2 ^ low) (mod-lt word (pow_pos (low + 1))) small (λ i l.
      let here : bit_at (word % 2 ^ (low + 1)) i ≡ bit_at word i =
      sym (bit_at_cat_low behind (low + 1) (word % 2 ^ (low + 1)) i l) ∙ ap (λ (n : ℕ). bit_at n i) (div-add-mod' word (2 ^ (low + 1))) in
      here ∙ elim (cases_eq i low) [
        | inl same ↦ ap (bit_at word) same ∙ (set ∙ sym (ap (bit_at (2 ^ low)) same ∙ bit_at-pow_same low))
        | inr other ↦ none i (omega (arith, l, other)) ∙ sym (bit_at-pow_other low i other)
      ])

  parts : word ≡ behind * 2 ^ (low + 1) + 2 ^ low
  parts = sym (div-add-mod' word (2 ^ (low + 1))) ∙ ap (λ (n : ℕ). behind * 2 ^ (low + 1) + n) lowest_bits

  one_less : word - 1 ≡ behind * 2 ^ (low + 1) + (2 ^ low - 1)
  one_less = let e = parts in omega (arith, e, pow_pos low)

  pub cleared_same : bit_at (bit_and word (word - 1)) low ≡ 0
  cleared_same =
      let a = bit_at_and word (word - 1) low in
      let b : bit_at (word - 1) low ≡ 0 =
      ap (λ (n : ℕ). bit_at n low) one_less ∙ (bit_at_cat_low behind (low + 1) (2 ^ low - 1) low (omega arith) ∙ bit_at_ones_above low low (omega arith)) in
      omega (arith, a, b)

  pub cleared_other : (i : ℕ) → i ≢ low → bit_at (bit_and word (word - 1)) i ≡ bit_at word i
  cleared_other i other =
      let a = bit_at_and word (word - 1) i in
      elim (cases_lt i low) [
        | inl below ↦ let b = none i below in omega (arith, a, b)
        | inr above ↦
            let l : low + 1 ≤ i = omega (arith, above, other) in
            let less : 2 ^ low - 1 < 2 ^ (low + 1) = let m = small in omega (arith, m) in
            let b : bit_at (word - 1) i ≡ bit_at word i =
            ap (λ (n : ℕ). bit_at n i) one_less
            ∙ (bit_at_cat_high behind (low + 1) (2 ^ low - 1) i less l
            ∙ sym (ap (λ (n : ℕ). bit_at n i) parts ∙ bit_at_cat_high behind (low + 1) (2 ^ low) i small l)) in
            omega (arith, a, b)
      ]

-- a bit of a word among words
pub bit_here : (words : List ℕ) (k bit : ℕ) → bit < 64 → is_bit words (64 * k + bit) ≡ (bit_at (get_or words k 0) bit == 1)
bit_here words k bit l =
    let a : (64 * k + bit) / 64 ≡ k = omega (arith, l) in
    let b : (64 * k + bit) % 64 ≡ bit = omega (arith, l) in
    ap (λ (n : ℕ). bit_at (get_or words n 0) ((64 * k + bit) % 64) == 1) a ∙ ap (λ (n : ℕ). bit_at (get_or words k 0) n == 1) b

module _ (words : List ℕ) (k from skipped : ℕ) (before : (i : ℕ) → from ≤ i → i < 64 * k + skipped → is_bit words i ≡ false) where
  -- no bit is set up to one of the next word
  pub passed_on : (next : ℕ) → next ≤ 64 → ((i : ℕ) → skipped ≤ i → i < next → bit_at (get_or words k 0) i ≡ 0)
      → (i : ℕ) → from ≤ i → i < 64 * k + next → is_bit words i ≡ false
  passed_on next few none i more less =
      elim (cases_lt i (64 * k + skipped)) [
        | inl here ↦ before i more here
        | inr there ↦
            let j = i - 64 * k in
            let is : i ≡ 64 * k + j = omega (arith, there) in
            ap (is_bit words) is
            ∙ (bit_here words k j (omega (arith, less, few, there)) ∙ ap (λ (n : ℕ). n == 1) (none j (omega (arith, there)) (omega (arith, less, there))))
      ]

module _ (words : List ℕ) (bits k skipped bit : ℕ) (lies : Lies bits words) (lowest : IsLowest (get_or words k 0) skipped bit) where
  pub set_there : is_bit words (64 * k + bit) ≡ true
  set_there = bit_here words k bit lowest.within ∙ ap (λ (n : ℕ). n == 1) lowest.set

  -- a bit that is set is one of those
  pub within_bits : 64 * k + bit < bits
  within_bits = elim (cases_lt (64 * k + bit) bits) [
    | inl less ↦ less
    | inr more ↦ absurd (both_ways (is_bit words (64 * k + bit)) (lies.clear (64 * k + bit) more) set_there)
  ]
