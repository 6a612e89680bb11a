-- What a comparison says of numbers, packed in words.
use Rattle.std.proofs.Common.{◌≡◌, ℕ, zero, suc, ◌+◌, ◌-◌, ◌*◌, ◌/◌, ◌%◌, ◌^◌, ◌<◌, ◌≤◌, Bool, true, false, List, [], ◌∷◌, ◌++◌, length, map, get_or, take, drop, refl, sym, ap, ◌∙◌, cond, arith, inl, inr}
use Rattle.std.specs.Prelude.{◌==◌, min}
use Rattle.std.specs.Int.{bit_at}
use lib.Lanes.{mask_l}
use mir.Val.{bool_byte}
use Rattle.std.proofs.Math.ListN.{set}
use Rattle.std.proofs.Math.Pow.{pow_mono}
use Rattle.std.proofs.Math.Nat.{pow-succ', mul_assoc}
use Rattle.std.proofs.lemmas.Bool.{cases_lt, cases_eq}
use Rattle.std.proofs.lemmas.List.{get_or_past, map-append, length-map, length-take, length-drop, get_or-set_same, get_or-set_other}
use Rattle.std.proofs.lemmas.Simd.{bit_mask_l, mask_l-lt, chunk-drop, length-chunk}
use Rattle.hy_kernel.specs.Bits.{is_bit}

one : (b : Bool) → (cond b 1 0 == 1) ≡ b
one true = refl
one false = refl

-- a bit of packed tests
pub packed : (tests : List Bool) (j : ℕ) → (bit_at (mask_l tests) j == 1) ≡ get_or tests j false
packed tests j = ap (λ (n : ℕ). n == 1) (bit_mask_l tests j) ∙ one (get_or tests j false)

in_first : {X : Type 0} (p : X → Bool) (xs : List X) (n j : ℕ) → j < n → get_or (map p (take n xs)) j false ≡ get_or (map p xs) j false
in_first p xs zero j l = absurd (omega arith)
in_first p [] (suc n) zero l = refl
in_first p [] (suc n) (suc j) l = refl
in_first p (x ∷ xs) (suc n) zero l = refl
in_first p (x ∷ xs) (suc n) (suc j) l = in_first p xs n j (omega arith)

behind : {X : Type 0} (p : X → Bool) (xs : List X) (k j : ℕ) → get_or (map p (drop k xs)) j false ≡ get_or (map p xs) (k + j) false
behind p xs zero j = ap (λ (i : ℕ). get_or (map p xs) i false) (let e : j ≡ 0 + j = omega arith in e)
behind p [] (suc k) j = sym (get_or_past [] (suc k + j) false (omega arith))
behind p (x ∷ xs) (suc k) j = behind p xs k j ∙ ap (λ (i : ℕ). get_or (map p (x ∷ xs)) i false) (let e : suc (k + j) ≡ suc k + j = omega arith in e)

-- a list that is taken whole, or as far as 64
taken : {X : Type 0} (p : X → Bool) (xs : List X) (j : ℕ) → j < 64 → get_or (map p (take (min (length xs) 64) xs)) j false ≡ get_or (map p xs) j false
taken p xs j l =
    elim (cases_lt j (min (length xs) 64)) [
      | inl less ↦ in_first p xs (min (length xs) 64) j less
      | inr more ↦
          get_or_past (map p (take (min (length xs) 64) xs)) j false (omega (arith, length-map (take (min (length xs) 64) xs) p, length-take (min (length xs) 64) xs))
          ∙ sym (get_or_past (map p xs) j false (omega (arith, length-map xs p)))
    ]

-- the bits of a word that was packed from the numbers behind those of the words before
pub of_word : {X : Type 0} (p : X → Bool) (xs rest : List X) (words : List ℕ) (k i : ℕ) → rest ≡ drop (64 * k) xs → i / 64 ≡ k
    → get_or words (i / 64) 0 ≡ mask_l (map p (take (min (length rest) 64) rest)) → is_bit words i ≡ get_or (map p xs) i false
of_word {X} p xs rest words k i is at word =
    let place : 64 * k + i % 64 ≡ i = omega (arith, at) in
    let within : i % 64 < 64 = omega arith in
    ap (λ (w : ℕ). bit_at w (i % 64) == 1) word
    ∙ (packed (map p (take (min (length rest) 64) rest)) (i % 64)
    ∙ (taken p rest (i % 64) within
    ∙ (ap (λ (ys : List X). get_or (map p ys) (i % 64) false) is
    ∙ (behind p xs (64 * k) (i % 64) ∙ ap (λ (j : ℕ). get_or (map p xs) j false) place))))

-- a word of so many tests has so many bits
pub small : (most word : ℕ) (tests : List Bool) → word ≡ mask_l tests → length tests ≤ most → word < 2 ^ most
small most word tests e le = omega (arith, e, mask_l-lt tests, pow_mono le)

pub byte_small : (b : Bool) → bool_byte b ≤ 1
byte_small true = omega arith
byte_small false = omega arith

drop_more : {X : Type 0} (xs : List X) (k n : ℕ) → drop n (drop k xs) ≡ drop (k + n) xs
drop_more xs zero n = ap (λ (i : ℕ). drop i xs) (let e : n ≡ 0 + n = omega arith in e)
drop_more [] (suc k) n = drop_none n ∙ sym (drop_none (suc k + n))
  where
    drop_none : {X : Type 0} (n : ℕ) → drop {A = X} n [] ≡ []
    drop_none zero = refl
    drop_none (suc n) = refl
drop_more (x ∷ xs) (suc k) n = drop_more xs k n ∙ ap (λ (i : ℕ). drop i (x ∷ xs)) (let e : suc (k + n) ≡ suc k + n = omega arith in e)

drop_past : {X : Type 0} (xs : List X) (n : ℕ) → length xs ≤ n → drop n xs ≡ []
drop_past [] zero l = refl
drop_past [] (suc n) l = refl
drop_past (x ∷ xs) zero l = absurd (omega arith)
drop_past (x ∷ xs) (suc n) l = drop_past xs n (omega arith)

-- what is left after one more word
pub rest_after : {X : Type 0} (xs rest : List X) (k : ℕ) → rest ≡ drop (64 * k) xs → drop (min (length rest) 64) rest ≡ drop (64 * (k + 1)) xs
rest_after {X} xs rest k e =
    let lengths : length rest ≡ length xs - 64 * k = ap length e ∙ length-drop (64 * k) xs in
    elim (cases_lt (length rest) 64) [
      | inl less ↦
          let all : min (length rest) 64 ≡ length rest = omega arith in
          ap (λ (n : ℕ). drop n rest) all ∙ (drop_past rest (length rest) (omega arith) ∙ sym (drop_past xs (64 * (k + 1)) (omega (arith, lengths))))
      | inr more ↦
          let whole : min (length rest) 64 ≡ 64 = omega arith in
          let further : 64 * k + 64 ≡ 64 * (k + 1) = omega arith in
          ap (λ (n : ℕ). drop n rest) whole ∙ (ap (drop 64) e ∙ (drop_more xs (64 * k) 64 ∙ ap (λ (n : ℕ). drop n xs) further))
    ]

-- one more word is packed
pub one_more : {X : Type 0} (p : X → Bool) (xs rest : List X) (words : List ℕ) (k word : ℕ) → k < length words → rest ≡ drop (64 * k) xs → word ≡ mask_l (map p (take (min (length rest) 64) rest))
    → ((i : ℕ) → i / 64 < k → is_bit words i ≡ get_or (map p xs) i false) → (i : ℕ) → i / 64 < k + 1 → is_bit (set words k word) i ≡ get_or (map p xs) i false
one_more p xs rest words k word within e packs before i less =
    elim (cases_eq (i / 64) k) [
      | inl here ↦
          of_word p xs rest (set words k word) k i e here
          (ap (λ (j : ℕ). get_or (set words k word) j 0) here ∙ (get_or-set_same words k word 0 within ∙ packs))
      | inr other ↦
          ap (λ (w : ℕ). bit_at w (i % 64) == 1) (get_or-set_other words k (i / 64) word 0 other) ∙ before i (omega (arith, less, other))
    ]

-- tests that are packed in front of others
joined : (first later : List Bool) → mask_l (first ++ later) ≡ mask_l first + 2 ^ length first * mask_l later
joined [] later = omega arith
joined (test ∷ first) later =
    let more : 2 ^ suc (length first) * mask_l later ≡ 2 * (2 ^ length first * mask_l later) =
    ap (λ (n : ℕ). n * mask_l later) (pow-succ' 2 (length first)) ∙ mul_assoc 2 (2 ^ length first) (mask_l later) in
    let rest = joined first later in
    omega (arith, more, rest)

parts : {X : Type 0} (p : X → Bool) (xs : List X) (k : ℕ) → k + 16 ≤ length xs
    → mask_l (map p (drop k xs)) ≡ mask_l (map p (drop (k + 16) xs)) * 65536 + mask_l (map p (take 16 (drop k xs)))
parts p xs k within =
    let part = take 16 (drop k xs) in
    let long : 2 ^ length (map p part) ≡ 65536 = ap (λ (n : ℕ). 2 ^ n) (length-map part p ∙ length-chunk k 16 xs within) in
    let scaled = ap (λ (n : ℕ). n * mask_l (map p (drop (k + 16) xs))) long in
    let split = ap (λ ys. mask_l (map p ys)) (chunk-drop k 16 xs)
    ∙ (ap mask_l (map-append p part (drop (k + 16) xs)) ∙ joined (map p part) (map p (drop (k + 16) xs))) in
    omega (arith, split, scaled)

-- a part of 16 is packed in front of those behind it
pub part_more : {X : Type 0} (p : X → Bool) (xs : List X) (i word part : ℕ) → 0 < i → 16 * i ≤ length xs → word ≡ mask_l (map p (drop (16 * i) xs))
    → part ≡ mask_l (map p (take (16 * (i - 1) + 16 - 16 * (i - 1)) (drop (16 * (i - 1)) xs))) → word * 65536 + part ≡ mask_l (map p (drop (16 * (i - 1)) xs))
part_more p xs i word part some within e packs =
    let size : 16 * (i - 1) + 16 - 16 * (i - 1) ≡ 16 = omega arith in
    let place : 16 * i ≡ 16 * (i - 1) + 16 = omega (arith, some) in
    let first = packs ∙ ap (λ (n : ℕ). mask_l (map p (take n (drop (16 * (i - 1)) xs)))) size in
    let later = e ∙ ap (λ (n : ℕ). mask_l (map p (drop n xs))) place in
    omega (arith, parts p xs (16 * (i - 1)) (omega (arith, place, within)), first, later)
