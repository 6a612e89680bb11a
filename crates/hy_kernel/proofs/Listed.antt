-- The bits of words as a list.
use Rattle.std.proofs.Common.{◌≡◌, ◌≢◌, ℕ, zero, suc, ◌+◌, ◌/◌, ◌%◌, ◌<◌, ◌≤◌, Bool, false, List, [], ◌∷◌, length, map, replicate, get_or, refl, sym, ap, ◌∙◌, arith, inl, inr, subst}
use Rattle.std.specs.Prelude.{◌==◌, not, if◌then◌else◌}
use Rattle.std.specs.List.{range_with_len}
use Rattle.std.specs.Int.{bit_at}
use Rattle.std.proofs.Math.ListN.{set}
use Rattle.std.proofs.lemmas.Bool.{cases_eq, eq-eqb, ne_eqb}
use Rattle.std.proofs.lemmas.List.{length-map, ext_get_or, get_or-set_same, get_or-set_other}
use Rattle.std.proofs.lemmas.List.FromFn.{length-range_with_len}
use Rattle.std.proofs.lemmas.Nat.Bits.{bit_at-zero}
use Rattle.std.specs.Vec.{with_items}
use Rattle.std.specs.Global.{Vec}
use Rattle.std.proofs.lemmas.List.{with_items_is}
use lib.Lanes.{zip2}
use Rattle.std.proofs.lemmas.Simd.{get_or-zip2, length-zip2}
use Rattle.hy_kernel.specs.Bits.{is_bit, bits_below, Lies}

get_mapped : (f : ℕ → Bool) (a n i : ℕ) → i < n → get_or (map f (range_with_len a n)) i false ≡ f (a + i)
get_mapped f a zero i l = absurd (omega arith)
get_mapped f a (suc n) zero l = ap f (let e : a ≡ a + 0 = omega arith in e)
get_mapped f a (suc n) (suc i) l = get_mapped f (a + 1) n i (omega arith) ∙ ap f (let e : a + 1 + i ≡ a + suc i = omega arith in e)

pub length_below : (n : ℕ) (words : List ℕ) → length (bits_below n words) ≡ n
length_below n words = length-map (range_with_len 0 n) (is_bit words) ∙ length-range_with_len 0 n

pub bit_of : (n : ℕ) (words : List ℕ) (i : ℕ) → i < n → get_or (bits_below n words) i false ≡ is_bit words i
bit_of n words i l = get_mapped (is_bit words) 0 n i l ∙ ap (is_bit words) (let e : 0 + i ≡ i = omega arith in e)

-- words have the bits of a list
pub listed : (n : ℕ) (words : List ℕ) (bits : List Bool) → length bits ≡ n → ((i : ℕ) → i < n → is_bit words i ≡ get_or bits i false) → bits_below n words ≡ bits
listed n words bits len same =
    ext_get_or false (bits_below n words) bits (length_below n words ∙ sym len)
    (λ i l. let within : i < n = omega (arith, l, length_below n words) in bit_of n words i within ∙ same i within)

get_same : {A : Type 0} (n : ℕ) (a : A) (i : ℕ) → i < n → get_or (replicate n a) i a ≡ a
get_same zero a i l = absurd (omega arith)
get_same (suc n) a zero l = refl
get_same (suc n) a (suc i) l = get_same n a i (omega arith)

get_zero : (n i : ℕ) → ◌≡◌ {A = ℕ} (get_or (replicate {A = ℕ} n 0) i 0) 0
get_zero zero i = refl
get_zero (suc n) zero = refl
get_zero (suc n) (suc i) = get_zero n i

length_same : {A : Type 0} (n : ℕ) (a : A) → length (replicate n a) ≡ n
length_same zero a = refl
length_same (suc n) a = let e = length_same n a in omega (arith, e)

no_bits : (m i : ℕ) → is_bit (replicate {A = ℕ} m 0) i ≡ false
no_bits m i = ap (λ (w : ℕ). bit_at w (i % 64) == 1) (get_zero m (i / 64)) ∙ ap (λ (x : ℕ). x == 1) (bit_at-zero (i % 64))

-- words of zeros
pub blank : (n m : ℕ) → bits_below n (replicate m 0) ≡ replicate n false
blank n m = listed n (replicate {A = ℕ} m 0) (replicate n false) (length_same n false) (λ i l. no_bits m i ∙ sym (get_same n false i l))

pub blank_lies : (n : ℕ) → Lies n (replicate (n / 64 + 1) 0)
blank_lies n = record { size = length_same {A = ℕ} (n / 64 + 1) 0; clear = λ i l. no_bits (n / 64 + 1) i }

-- a vector whose elements were written through a slice
module _ (n : ℕ) (words : Vec ℕ) (new : List ℕ) (same : length new ≡ words.len) where
  pub written : (bits : List Bool) → length bits ≡ n → ((i : ℕ) → i < n → is_bit new i ≡ get_or bits i false) → bits_below n (with_items words new).items ≡ bits
  written bits len each = ap (bits_below n) (with_items_is words new same) ∙ listed n new bits len each

  pub written_lies : Lies n words.items → ((i : ℕ) → n ≤ i → is_bit new i ≡ false) → Lies n (with_items words new).items
  written_lies lies clear =
      subst (Lies n) (sym (with_items_is words new same)) (record { size = let size = lies.size in omega (arith, same, size, words.ok.0); clear = clear })

zip_of : (f : Bool → Bool → Bool) (xs ys : List Bool) (i : ℕ) → i < length xs → length ys ≡ length xs → get_or (zip2 f xs ys) i false ≡ f (get_or xs i false) (get_or ys i false)
zip_of f xs ys i l e = get_or-zip2 f xs ys i false false false l (omega (arith, l, e))

-- two masks of as many bits joined bit by bit
pub joined : (f : Bool → Bool → Bool) (n m : ℕ) (words others new : List ℕ) (xs ys : List Bool) → bits_below n words ≡ xs → bits_below m others ≡ ys → m ≡ n
    → ((i : ℕ) → is_bit new i ≡ f (is_bit words i) (is_bit others i)) → (i : ℕ) → i < n → is_bit new i ≡ get_or (zip2 f xs ys) i false
joined f n m words others new xs ys e g size each i l =
    let xlen : length xs ≡ n = ap length (sym e) ∙ length_below n words in
    let ylen : length ys ≡ m = ap length (sym g) ∙ length_below m others in
    each i
    ∙ (ap (λ (b : Bool). f b (is_bit others i)) (sym (ap (λ (zs : List Bool). get_or zs i false) (sym e) ∙ bit_of n words i l))
    ∙ (ap (f (get_or xs i false)) (sym (ap (λ (zs : List Bool). get_or zs i false) (sym g) ∙ bit_of m others i (omega (arith, l, size))))
    ∙ sym (zip_of f xs ys i (omega (arith, l, xlen)) (omega (arith, xlen, ylen, size)))))

pub joined_length : (f : Bool → Bool → Bool) (n m : ℕ) (words others : List ℕ) (xs ys : List Bool) → bits_below n words ≡ xs → bits_below m others ≡ ys → m ≡ n → length (zip2 f xs ys) ≡ n
joined_length f n m words others xs ys e g size =
    let xlen : length xs ≡ n = ap length (sym e) ∙ length_below n words in
    let ylen : length ys ≡ m = ap length (sym g) ∙ length_below m others in
    length-zip2 f xs ys (xlen ∙ (sym size ∙ sym ylen)) ∙ xlen

-- as many bits in two masks
pub as_many : (n m : ℕ) (words others : List ℕ) (xs ys : List Bool) → bits_below n words ≡ xs → bits_below m others ≡ ys → length ys ≡ length xs → m ≡ n
as_many n m words others xs ys e g same = sym (ap length (sym g) ∙ length_below m others) ∙ (same ∙ (ap length (sym e) ∙ length_below n words))

-- one bit of one word is another
pub one_set : (words : List ℕ) (place word : ℕ) (bit : Bool) → place / 64 < length words
    → (bit_at word (place % 64) == 1) ≡ bit → ((i : ℕ) → i < 64 → i ≢ place % 64 → bit_at word i ≡ bit_at (get_or words (place / 64) 0) i)
    → (i : ℕ) → is_bit (set words (place / 64) word) i ≡ (if i == place then bit else is_bit words i)
one_set words place word bit there here others i =
    elim (cases_eq i place) [
      | inl same ↦
          ap (λ (j : ℕ). is_bit (set words (place / 64) word) j) same
          ∙ (ap (λ (w : ℕ). bit_at w (place % 64) == 1) (get_or-set_same words (place / 64) word 0 there)
          ∙ (here ∙ sym (ap (λ (b : Bool). if b then bit else is_bit words i) (eq-eqb i place same))))
      | inr other ↦
          elim (cases_eq (i / 64) (place / 64)) [
            | inl word_same ↦
                let apart : i % 64 ≢ place % 64 = λ q. other (omega (arith, q, word_same)) in
                ap (λ (k : ℕ). bit_at (get_or (set words (place / 64) word) k 0) (i % 64) == 1) word_same
                ∙ (ap (λ (w : ℕ). bit_at w (i % 64) == 1) (get_or-set_same words (place / 64) word 0 there)
                ∙ (ap (λ (x : ℕ). x == 1) (others (i % 64) (omega arith) apart)
                ∙ (ap (λ (k : ℕ). bit_at (get_or words k 0) (i % 64) == 1) (sym word_same)
                ∙ sym (ap (λ (b : Bool). if b then bit else is_bit words i) (ne_eqb i place other)))))
            | inr word_other ↦
                ap (λ (w : ℕ). bit_at w (i % 64) == 1) (get_or-set_other words (place / 64) (i / 64) word 0 word_other)
                ∙ sym (ap (λ (b : Bool). if b then bit else is_bit words i) (ne_eqb i place other))
          ]
    ]

pub get_turned : (bits : List Bool) (i : ℕ) → i < length bits → get_or (map not bits) i false ≡ not (get_or bits i false)
get_turned [] i l = absurd (omega arith)
get_turned (b ∷ bits) zero l = refl
get_turned (b ∷ bits) (suc i) l = get_turned bits i (omega arith)

pub one_listed : (bits : List Bool) (place i : ℕ) (bit was : Bool) → place < length bits → was ≡ get_or bits i false → (if i == place then bit else was) ≡ get_or (set bits place bit) i false
one_listed bits place i bit was l e =
    elim (cases_eq i place) [
      | inl same ↦
          ap (λ (b : Bool). if b then bit else was) (eq-eqb i place same)
          ∙ sym (ap (λ (j : ℕ). get_or (set bits place bit) j false) same ∙ get_or-set_same bits place bit false l)
      | inr other ↦ ap (λ (b : Bool). if b then bit else was) (ne_eqb i place other) ∙ (e ∙ sym (get_or-set_other bits place i bit false other))
    ]
