-- The places of the bits that are set, in order, word by word.
use Rattle.std.proofs.Common.{◌≡◌, ◌≢◌, ℕ, ℤ, pos, zero, suc, ◌+◌, ◌-◌, ◌*◌, ◌^◌, ◌<◌, ◌≤◌, Bool, true, false, cond, List, [], ◌∷◌, ◌++◌, length, get_or, refl, sym, ap, ◌∙◌, arith, inl, inr}
use Rattle.std.specs.Prelude.{◌==◌, ◌&&◌, not, min, nat_lt, filter, bit_and, IfOk, Result, Ok, Err}
use Rattle.std.specs.List.{All, range_with_len}
use Rattle.std.specs.Int.{bit_at, bit_not, trailing_zeros, w64}
use Rattle.std.proofs.lemmas.Bool.{cases_lt, cases_eq, lt-ltb, le-ltb}
use Rattle.std.proofs.Math.Seq.{drop-append_seam, take-append_seam}
use Rattle.std.proofs.lemmas.List.{append-nil, append_assoc, map-append}
use Rattle.std.proofs.lemmas.List.Elements.{All-drop, All-same, All-take, filter-append}
use Rattle.std.proofs.lemmas.Nat.Bits.{bit_at_and, bit_at-lt, bit_at-zero, bit_at_not, bit_at_ones, bit_at_ones_above, bit_at-trailing_zeros}
use Rattle.hy_kernel.specs.Bits.{is_bit, is_kept, bits_below, is_set_from, places_kept, places_of_word, places_without, values_at}
use Rattle.hy_kernel.proofs.Joining.{bit_without}
use Rattle.hy_kernel.proofs.Listed.{bit_of}
use Rattle.hy_kernel.proofs.Lowest.{bit_here, cleared_other, cleared_same}

-- ---- what is kept of a range

-- tests that say the same keep the same
pub kept_alike : (p q : ℕ → Bool) (a n : ℕ) → ((i : ℕ) → a ≤ i → i < a + n → p i ≡ q i) → filter p (range_with_len a n) ≡ filter q (range_with_len a n)
kept_alike p q a zero same = refl
kept_alike p q a (suc n) same =
    ap (λ (b : Bool). cond b (a ∷ filter p (range_with_len (a + 1) n)) (filter p (range_with_len (a + 1) n))) (same a (omega arith) (omega arith))
    ∙ ap (λ (xs : List ℕ). cond (q a) (a ∷ xs) xs) (kept_alike p q (a + 1) n (λ i more less. same i (omega (arith, more)) (omega (arith, less))))

-- where a test never holds nothing is kept
pub none_kept : (p : ℕ → Bool) (a n : ℕ) → ((i : ℕ) → a ≤ i → i < a + n → p i ≡ false) → filter p (range_with_len a n) ≡ []
none_kept p a zero none = refl
none_kept p a (suc n) none =
    ap (λ (b : Bool). cond b (a ∷ filter p (range_with_len (a + 1) n)) (filter p (range_with_len (a + 1) n))) (none a (omega arith) (omega arith))
    ∙ none_kept p (a + 1) n (λ i more less. none i (omega (arith, more)) (omega (arith, less)))

-- the first that is kept, and the others by a test that leaves it out
pub first_kept : (p q : ℕ → Bool) (a n i : ℕ) → a ≤ i → i < a + n → p i ≡ true → q i ≡ false → ((j : ℕ) → a ≤ j → j < i → p j ≡ false)
    → ((j : ℕ) → a ≤ j → j < a + n → j ≢ i → q j ≡ p j) → filter p (range_with_len a n) ≡ i ∷ filter q (range_with_len a n)
first_kept p q a zero i from to here gone passed others = absurd (omega (arith, from, to))
first_kept p q a (suc n) i from to here gone passed others =
    let kept : (ℕ → Bool) → List ℕ = λ test. filter test (range_with_len (a + 1) n) in
    elim (cases_eq a i) [
      | inl same ↦
          let rest : kept p ≡ kept q =
          kept_alike p q (a + 1) n (λ j more less. sym (others j (omega (arith, more)) (omega (arith, less)) (λ e. absurd (omega (arith, e, same, more))))) in
          ap (λ (b : Bool). cond b (a ∷ kept p) (kept p)) (ap p same ∙ here)
          ∙ (ap (λ (xs : List ℕ). a ∷ xs) rest
          ∙ (ap (λ (j : ℕ). j ∷ kept q) same ∙ ap (λ (b : Bool). i ∷ cond b (a ∷ kept q) (kept q)) (sym (ap q same ∙ gone))))
      | inr other ↦
          let below : a < i = omega (arith, from, other) in
          let none : p a ≡ false = passed a (omega arith) below in
          let none_left : q a ≡ false = others a (omega arith) (omega arith) other ∙ none in
          ap (λ (b : Bool). cond b (a ∷ kept p) (kept p)) none
          ∙ (first_kept p q (a + 1) n i (omega (arith, below)) (omega (arith, to)) here gone (λ j more less. passed j (omega (arith, more)) less)
          (λ j more less ne. others j (omega (arith, more)) (omega (arith, less)) ne)
          ∙ ap (λ (b : Bool). i ∷ cond b (a ∷ kept q) (kept q)) (sym none_left))
    ]

range_both : (a m n : ℕ) → range_with_len a (m + n) ≡ range_with_len a m ++ range_with_len (a + m) n
range_both a zero n = (λ j. range_with_len (start j) (none j))
  where
    none : zero + n ≡ n
    none = omega arith

    start : a ≡ a + zero
    start = omega arith
range_both a (suc m) n =
    let more : suc m + n ≡ suc (m + n) = omega arith in
    let start : a + 1 + m ≡ a + suc m = omega arith in
    ap (range_with_len a) more
    ∙ ap (λ (xs : List ℕ). a ∷ xs) (range_both (a + 1) m n ∙ ap (λ (k : ℕ). range_with_len (a + 1) m ++ range_with_len k n) start)

-- of a range in two parts
kept_both : (p : ℕ → Bool) (a m n : ℕ) → filter p (range_with_len a (m + n)) ≡ filter p (range_with_len a m) ++ filter p (range_with_len (a + m) n)
kept_both p a m n = ap (filter p) (range_both a m n) ∙ filter-append p (range_with_len a m) (range_with_len (a + m) n)

-- at most as many are kept as there are
pub kept_few : (p : ℕ → Bool) (a n : ℕ) → length (filter p (range_with_len a n)) ≤ n
kept_few p a zero = omega arith
kept_few p a (suc n) = either (p a) (kept_few p (a + 1) n)
  where
    either : (b : Bool) → length (filter p (range_with_len (a + 1) n)) ≤ n
        → length (cond b (a ∷ filter p (range_with_len (a + 1) n)) (filter p (range_with_len (a + 1) n))) ≤ suc n
    either true few = omega (arith, few)
    either false few = omega (arith, few)

-- ---- a word

-- the lowest bit that is set has the first place, and the others are those of the word without it
pub lowest_kept : (word first : ℕ) → 0 < word → word < 2 ^ 64
    → places_of_word word first ≡ (first + trailing_zeros w64 word) ∷ places_of_word (bit_and word (word - 1)) first
unfolding places_of_word
lowest_kept word first some fits =
    let low = trailing_zeros w64 word in
    let rest = bit_and word (word - 1) in
    let t = bit_at-trailing_zeros w64 word some fits in
    let at : first + low - first ≡ low = omega arith in
    let within : low < 64 = t.0 in
    first_kept (is_set_from word first) (is_set_from rest first) first 64 (first + low) (omega arith) (omega (arith, within))
    (ap (λ (i : ℕ). bit_at word i == 1) at ∙ ap (λ (x : ℕ). x == 1) t.1)
    (ap (λ (i : ℕ). bit_at rest i == 1) at ∙ ap (λ (x : ℕ). x == 1) (cleared_same word low t.1 t.2))
    (λ j more less. ap (λ (x : ℕ). x == 1) (t.2 (j - first) (omega (arith, more, less))))
    (λ j more less ne. ap (λ (x : ℕ). x == 1) (cleared_other word low t.1 t.2 (j - first) (λ e. ne (omega (arith, e, more)))))

-- a word without bits has no places
pub no_bits_kept : (word first : ℕ) → word ≡ 0 → places_of_word word first ≡ []
unfolding places_of_word
no_bits_kept word first none =
    none_kept (is_set_from word first) first 64 (λ i more less. ap (λ (w : ℕ). bit_at w (i - first) == 1) none ∙ ap (λ (x : ℕ). x == 1) (bit_at-zero (i - first)))

-- no word has more than 64
pub few_in_word : (word first : ℕ) → length (places_of_word word first) ≤ 64
unfolding places_of_word
few_in_word word first = kept_few (is_set_from word first) first 64

-- one place more is found
pub one_found : {X : Type 0} (found now rest left whole : List X) (place : X) → now ≡ found ++ place ∷ [] → rest ≡ place ∷ left → found ++ rest ≡ whole → now ++ left ≡ whole
one_found {X} found now rest left whole place pushed is so =
    ap (λ (xs : List X). xs ++ left) pushed
    ∙ (append_assoc found (place ∷ []) left ∙ (ap (λ (xs : List X). found ++ xs) (sym is) ∙ so))

-- none is left
pub all_found : {X : Type 0} (found rest whole : List X) → rest ≡ [] → found ++ rest ≡ whole → found ≡ whole
all_found {X} found rest whole none so = sym (append-nil found) ∙ (ap (λ (xs : List X). found ++ xs) (sym none) ∙ so)

-- ---- a part of a word

-- the bits from one up to another
pub part_bits : (word from to i : ℕ) → 2 ^ from - 1 < 2 ^ 64 → i < 64
    → (bit_at (bit_and (bit_and word (2 ^ to - 1)) (bit_not w64 (2 ^ from - 1))) i == 1) ≡ ((not (nat_lt i from) && nat_lt i to) && (bit_at word i == 1))
part_bits word from to i fits within =
    let a = bit_at_and (bit_and word (2 ^ to - 1)) (bit_not w64 (2 ^ from - 1)) i in
    let b = bit_at_and word (2 ^ to - 1) i in
    let c = bit_at_not w64 (2 ^ from - 1) i fits within in
    let d = bit_at-lt word i in
    let result = bit_at (bit_and (bit_and word (2 ^ to - 1)) (bit_not w64 (2 ^ from - 1))) i in
    elim (cases_lt i from) [
      | inl before ↦
          let e = bit_at_ones from i before in
          let none : result ≡ 0 = omega (arith, a, c, e) in
          ap (λ (x : ℕ). x == 1) none ∙ sym (ap (λ (t : Bool). (not t && nat_lt i to) && (bit_at word i == 1)) (lt-ltb i from before))
      | inr reached ↦
          let e = bit_at_ones_above from i reached in
          elim (cases_lt i to) [
            | inl inside ↦
                let f = bit_at_ones to i inside in
                let same : result ≡ bit_at word i = omega (arith, a, b, c, d, e, f) in
                ap (λ (x : ℕ). x == 1) same
                ∙ sym ((λ j. (not (le-ltb i from reached j) && lt-ltb i to inside j) && (bit_at word i == 1)))
            | inr behind ↦
                let f = bit_at_ones_above to i behind in
                let none : result ≡ 0 = omega (arith, a, b, f) in
                ap (λ (x : ℕ). x == 1) none
                ∙ sym ((λ j. (not (le-ltb i from reached j) && le-ltb i to behind j) && (bit_at word i == 1)))
          ]
    ]

-- ---- a part of a mask, without the bits of another

same_lt : (a b c d : ℕ) → (a < b → c < d) → (b ≤ a → d ≤ c) → nat_lt a b ≡ nat_lt c d
same_lt a b c d below above = elim (cases_lt a b) [
  | inl less ↦ lt-ltb a b less ∙ sym (lt-ltb c d (below less))
  | inr more ↦ le-ltb a b more ∙ sym (le-ltb c d (above more))
]

-- what is kept of a word
pub kept_word : (words others : List ℕ) (first end k part i : ℕ) → get_or others k 0 < 2 ^ 64 → 64 * k ≤ i → i < 64 * k + 64
    → ((j : ℕ) → j < 64 → (bit_at part j == 1) ≡ ((not (nat_lt j (first - 64 * k)) && nat_lt j (min (end - 64 * k) 64)) && (bit_at (bit_and (get_or words k 0) (bit_not w64 (get_or others k 0))) j == 1)))
    → is_set_from part (64 * k) i ≡ is_kept words others first end i
kept_word words others first end k part i fits more less bits =
    let j = i - 64 * k in
    let within : j < 64 = omega (arith, more, less) in
    let place : 64 * k + j ≡ i = omega (arith, more) in
    let one = get_or words k 0 in
    let two = get_or others k 0 in
    let low : nat_lt j (first - 64 * k) ≡ nat_lt i first =
    same_lt j (first - 64 * k) i first (λ l. omega (arith, l, more)) (λ l. omega (arith, l, more)) in
    let high : nat_lt j (min (end - 64 * k) 64) ≡ nat_lt i end =
    same_lt j (min (end - 64 * k) 64) i end (λ l. omega (arith, l, more)) (λ l. omega (arith, l, more, within)) in
    let here : is_bit words i ≡ (bit_at one j == 1) = ap (is_bit words) (sym place) ∙ bit_here words k j within in
    let there : is_bit others i ≡ (bit_at two j == 1) = ap (is_bit others) (sym place) ∙ bit_here others k j within in
    bits j within
    ∙ ((λ t. (not (low t) && high t) && bit_without one two j fits within t)
    ∙ (λ t. (not (nat_lt i first) && nat_lt i end) && (sym here t && not (sym there t))))

module _ (words others : List ℕ) (first end : ℕ) where
  -- before the first word nothing is kept
  pub none_before : (begin : ℕ) → 64 * begin ≤ first → [] ≡ filter (is_kept words others first end) (range_with_len 0 (64 * begin))
  none_before begin low =
      sym (none_kept (is_kept words others first end) 0 (64 * begin) (λ i more less.
      ap (λ (b : Bool). (not b && nat_lt i end) && (is_bit words i && not (is_bit others i))) (lt-ltb i first (omega (arith, less, low)))))

  -- those of one word more
  pub word_kept : (k part : ℕ) → ((i : ℕ) → 64 * k ≤ i → i < 64 * k + 64 → is_set_from part (64 * k) i ≡ is_kept words others first end i)
      → places_of_word part (64 * k) ≡ filter (is_kept words others first end) (range_with_len (64 * k) 64)
  unfolding places_of_word
  word_kept k part same = kept_alike (is_set_from part (64 * k)) (is_kept words others first end) (64 * k) 64 same

  word_more : (k : ℕ)
      → filter (is_kept words others first end) (range_with_len 0 (64 * k)) ++ filter (is_kept words others first end) (range_with_len (64 * k) 64)
      ≡ filter (is_kept words others first end) (range_with_len 0 (64 * (k + 1)))
  word_more k =
      let many : 64 * k + 64 ≡ 64 * (k + 1) = omega arith in
      let start : 0 + 64 * k ≡ 64 * k = omega arith in
      ap (λ (n : ℕ). filter (is_kept words others first end) (range_with_len 0 (64 * k)) ++ filter (is_kept words others first end) (range_with_len n 64)) (sym start)
      ∙ (sym (kept_both (is_kept words others first end) 0 (64 * k) 64)
      ∙ ap (λ (n : ℕ). filter (is_kept words others first end) (range_with_len 0 n)) many)

  -- their places behind those of the words before
  pub places_more : (k part : ℕ) (before now : List ℕ) → before ≡ filter (is_kept words others first end) (range_with_len 0 (64 * k))
      → now ≡ before ++ places_of_word part (64 * k)
      → places_of_word part (64 * k) ≡ filter (is_kept words others first end) (range_with_len (64 * k) 64)
      → now ≡ filter (is_kept words others first end) (range_with_len 0 (64 * (k + 1)))
  places_more k part before now so_far pushed same = pushed ∙ ((λ t. so_far t ++ same t) ∙ word_more k)

  -- the numbers there behind those of the words before
  pub numbers_more : (values : List ℤ) (k part : ℕ) (before now : List ℤ)
      → before ≡ values_at values (filter (is_kept words others first end) (range_with_len 0 (64 * k)))
      → now ≡ before ++ values_at values (places_of_word part (64 * k))
      → places_of_word part (64 * k) ≡ filter (is_kept words others first end) (range_with_len (64 * k) 64)
      → now ≡ values_at values (filter (is_kept words others first end) (range_with_len 0 (64 * (k + 1))))
  numbers_more values k part before now so_far pushed same =
      let old = filter (is_kept words others first end) (range_with_len 0 (64 * k)) in
      let more = filter (is_kept words others first end) (range_with_len (64 * k) 64) in
      pushed
      ∙ ((λ t. so_far t ++ values_at values (same t))
      ∙ (sym (map-append (λ place. get_or values place (pos 0)) old more) ∙ ap (values_at values) (word_more k)))

  -- all words
  pub whole_part : (many : ℕ) → end ≤ many
      → filter (is_kept words others first end) (range_with_len 0 many) ≡ places_kept words others first end
  whole_part many all =
      let kept : ℕ → Bool = is_kept words others first end in
      let bare : ℕ → Bool = λ place. is_bit words place && not (is_bit others place) in
      elim (cases_lt end first) [
        | inl none ↦
            let nothing : filter kept (range_with_len 0 many) ≡ [] = none_kept kept 0 many (λ i more less. elim (cases_lt i first) [
              | inl low ↦ ap (λ (b : Bool). (not b && nat_lt i end) && bare i) (lt-ltb i first low)
              | inr high ↦ (λ t. (not (le-ltb i first high t) && le-ltb i end (omega (arith, high, none)) t) && bare i)
            ]) in
            let empty : 0 ≡ end - first = omega (arith, none) in
            nothing ∙ ap (λ (n : ℕ). filter bare (range_with_len first n)) empty
        | inr some ↦
            let sizes : many ≡ first + ((end - first) + (many - end)) = omega (arith, some, all) in
            let start : 0 + first ≡ first = omega arith in
            let stop : first + (end - first) ≡ end = omega (arith, some) in
            let before : filter kept (range_with_len 0 first) ≡ [] = none_kept kept 0 first (λ i more less.
            ap (λ (b : Bool). (not b && nat_lt i end) && bare i) (lt-ltb i first (omega (arith, less)))) in
            let inside : filter kept (range_with_len first (end - first)) ≡ filter bare (range_with_len first (end - first)) =
            kept_alike kept bare first (end - first) (λ i more less. (λ t. (not (le-ltb i first more t) && lt-ltb i end (omega (arith, less, stop)) t) && bare i)) in
            let behind : filter kept (range_with_len end (many - end)) ≡ [] = none_kept kept end (many - end) (λ i more less.
            (λ t. (not (le-ltb i first (omega (arith, more, some)) t) && le-ltb i end more t) && bare i)) in
            ap (λ (n : ℕ). filter kept (range_with_len 0 n)) sizes
            ∙ (kept_both kept 0 first ((end - first) + (many - end))
            ∙ ((λ t. before t ++ filter kept (range_with_len (start t) ((end - first) + (many - end))))
            ∙ (kept_both kept first (end - first) (many - end)
            ∙ ((λ t. inside t ++ filter kept (range_with_len (stop t) (many - end)))
            ∙ (ap (λ (xs : List ℕ). filter bare (range_with_len first (end - first)) ++ xs) behind
            ∙ append-nil (filter bare (range_with_len first (end - first))))))))
      ]

  -- what holds of all places holds of those of a word
  pub word_within : (P : ℕ → Type 0) (k : ℕ) → All P (places_kept words others first end)
      → All P (filter (is_kept words others first end) (range_with_len (64 * k) 64))
  word_within P k all =
      let kept : ℕ → Bool = is_kept words others first end in
      let start : 0 + 64 * k ≡ 64 * k = omega arith in
      let before = filter kept (range_with_len 0 (64 * k)) in
      let here = filter kept (range_with_len (64 * k) 64) in
      let behind = filter kept (range_with_len (64 * k + 64) end) in
      let parts : before ++ (here ++ behind) ≡ places_kept words others first end =
      ap (λ (xs : List ℕ). before ++ xs) (sym (kept_both kept (64 * k) 64 end))
      ∙ (ap (λ (n : ℕ). before ++ filter kept (range_with_len n (64 + end))) (sym start)
      ∙ (sym (kept_both kept 0 (64 * k) (64 + end)) ∙ whole_part (64 * k + (64 + end)) (omega arith))) in
      let rest : All P (here ++ behind) =
      All-same P (here ++ behind) _ (sym (drop-append_seam before (here ++ behind)))
      (All-drop P (length before) (before ++ (here ++ behind)) (All-same P (before ++ (here ++ behind)) (places_kept words others first end) parts all)) in
      All-same P here _ (sym (take-append_seam here behind)) (All-take P (length here) (here ++ behind) rest)

-- ---- what contracts see of masks

bit_in : (bits : ℕ) (words slice : List ℕ) (list : List Bool) (place : ℕ) → bits_below bits words ≡ list → slice ≡ words → place < bits → is_bit slice place ≡ get_or list place false
bit_in bits words slice list place is same l =
    ap (λ (ws : List ℕ). is_bit ws place) same ∙ (sym (bit_of bits words place l) ∙ ap (λ (bs : List Bool). get_or bs place false) is)

-- the places of a part of a mask, without those of another
pub masked : (bits m : ℕ) (words others slice beside : List ℕ) (xs ys : List Bool) (first end : ℕ) → bits_below bits words ≡ xs → bits_below m others ≡ ys
    → slice ≡ words → beside ≡ others → m ≡ bits → end ≤ bits
    → places_kept slice beside first end ≡ places_without xs ys first end
masked bits m words others slice beside xs ys first end one two same alike size within =
    kept_alike (λ place. is_bit slice place && not (is_bit beside place)) (λ place. get_or xs place false && not (get_or ys place false)) first (end - first)
    (λ i more less.
    let here : i < bits = omega (arith, more, less, within) in
    (λ t. bit_in bits words slice xs i one same here t && not (bit_in m others beside ys i two alike (omega (arith, here, size)) t)))

-- a fact about what there is, from another
pub ok_then : {A E : Type 0} {P Q : A → Type 0} (r : Result A E) → ((x : A) → P x → Q x) → IfOk r P → IfOk r Q
ok_then (Err e) f h = tt
ok_then (Ok x) f h = f x h
