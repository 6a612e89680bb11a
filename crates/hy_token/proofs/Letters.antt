-- A word of up to eight letters is told by their number.
use Rattle.std.proofs.Common.{◌≡◌, ℕ, zero, suc, ◌+◌, ◌*◌, ◌^◌, ◌%◌, ◌<◌, ◌≤◌, Bool, true, false, cond, Option, Some, None, List, [], ◌∷◌, length, take, refl, ap, sym, ◌∙◌, subst, arith, nat_lt}
use Rattle.std.specs.Prelude.{IfSome, ◌==◌, ◌&&◌, nat_le}
use Rattle.std.specs.Char.{to_ascii_lowercase}
use Rattle.std.specs.Str.{str_to_ascii_lowercase}
use Rattle.std.proofs.Math.Nat.{mod-eq_of_lt}
use Rattle.std.proofs.lemmas.Bool.{and_parts, eqb-true, leb-true, ltb-true}
use Rattle.hy_token.specs.Keyword.{keyword_of, keywords}
use Rattle.hy_token.specs.Lengths.{continues_word, word_len}
use Rattle.hy_token.specs.Letters.{with_letter, word_on, reserved}
use Rattle.hy_token.specs.Spellings.{word_found}
use Rattle.hy_token.specs.declared.Keyword.{Keyword}
use Rattle.hy_token.specs.declared.Keyword.TheVariants as keyword
use Rattle.hy_token.proofs.ByShape.{low_of, among, among_spelled, same_found}

-- the number that letters are behind others
abbrev letters_on : ℕ → List ℕ → ℕ
letters_on letters [] = letters
letters_on letters (b ∷ bs) = letters_on (with_letter letters b) bs

-- the word that stands first, in lower case
abbrev first_low : List ℕ → List ℕ
first_low [] = []
first_low (b ∷ bs) = cond (continues_word b) (to_ascii_lowercase b ∷ first_low bs) []

-- whether numbers are bytes
abbrev are_bytes : List ℕ → Bool
are_bytes [] = true
are_bytes (b ∷ bs) = nat_lt b 256 && are_bytes bs

byte_goes_on : (b : ℕ) → continues_word b ≡ true → nat_lt (to_ascii_lowercase b) 256 ≡ true
byte_goes_on b h = grind arith

byte_is_there : (b : ℕ) → continues_word b ≡ true → (to_ascii_lowercase b == 0) ≡ false
byte_is_there b h = grind arith

low_bytes_more : (b : ℕ) (bs : List ℕ) (goes : Bool) → continues_word b ≡ goes → are_bytes (first_low bs) ≡ true → are_bytes (first_low (b ∷ bs)) ≡ true
low_bytes_more b bs true h rest = let byte = byte_goes_on b h in rw (h, byte, rest) refl
low_bytes_more b bs false h rest = rw h refl

low_bytes : (bytes : List ℕ) → are_bytes (first_low bytes) ≡ true
low_bytes [] = refl
low_bytes (b ∷ bs) = low_bytes_more b bs (continues_word b) refl (low_bytes bs)

take_one_more : (n b : ℕ) (bs : List ℕ) → take (1 + n) (b ∷ bs) ≡ b ∷ take n bs
take_one_more n b bs = let e : 1 + n ≡ suc n = omega arith in ap (λ m. take m (b ∷ bs)) e

low_more : (b : ℕ) (bs : List ℕ) (goes : Bool) → continues_word b ≡ goes → first_low bs ≡ str_to_ascii_lowercase (take (word_len bs) bs)
    → first_low (b ∷ bs) ≡ str_to_ascii_lowercase (take (word_len (b ∷ bs)) (b ∷ bs))
low_more b bs true h rest = rw h (rw take_one_more (ap (λ l. to_ascii_lowercase b ∷ l) rest))
low_more b bs false h rest = rw h refl

low_is : (bytes : List ℕ) → first_low bytes ≡ str_to_ascii_lowercase (take (word_len bytes) bytes)
low_is [] = refl
low_is (b ∷ bs) = low_more b bs (continues_word b) refl (low_is bs)

low_len_more : (b : ℕ) (bs : List ℕ) (goes : Bool) → continues_word b ≡ goes → length (first_low bs) ≡ word_len bs → length (first_low (b ∷ bs)) ≡ word_len (b ∷ bs)
low_len_more b bs true h rest = rw h (omega (arith, rest))
low_len_more b bs false h rest = rw h refl

low_len : (bytes : List ℕ) → length (first_low bytes) ≡ word_len bytes
low_len [] = refl
low_len (b ∷ bs) = low_len_more b bs (continues_word b) refl (low_len bs)

-- what a word comes to, by its letters in lower case
abbrev WordIs : List ℕ → Type 0
WordIs bytes = (len letters : ℕ) → word_on len letters bytes ≡ (len + length (first_low bytes), letters_on letters (first_low bytes))

word_more : (b : ℕ) (bs : List ℕ) (goes : Bool) → continues_word b ≡ goes → WordIs bs → WordIs (b ∷ bs)
word_more b bs true h rest len letters =
    let there = byte_is_there b h in
    let n : (len + 1) + length (first_low bs) ≡ len + length (to_ascii_lowercase b ∷ first_low bs) = omega arith in
    let next = with_letter letters (to_ascii_lowercase b) in
    rw (h, there) (rest (len + 1) next ∙ ap (λ k. (k, letters_on next (first_low bs))) n)
word_more b bs false h rest len letters = let n : len ≡ len + 0 = omega arith in rw h (ap (λ k. (k, letters)) n)

word_is : (bytes : List ℕ) → WordIs bytes
word_is [] len letters = let n : len ≡ len + 0 = omega arith in ap (λ k. (k, letters)) n
word_is (b ∷ bs) len letters = word_more b bs (continues_word b) refl (word_is bs) len letters

pub len_is : (bytes : List ℕ) → (word_on 0 0 bytes).0 ≡ word_len bytes
len_is bytes =
    let n : 0 + length (first_low bytes) ≡ length (first_low bytes) = omega arith in
    ap (λ word. word.0) (word_is bytes 0 0) ∙ n ∙ low_len bytes

-- a number of 64 bits that stays one with n letters more
abbrev Fits : ℕ → ℕ → Type 0
Fits zero a = a < 2 ^ 64
Fits (suc n) a = Fits n (a * 256 + 255)

fits_below : (n a : ℕ) → Fits n a → a < 2 ^ 64
fits_below zero a fits = fits
fits_below (suc n) a fits = let more = fits_below n (a * 256 + 255) fits in omega (arith, more)

fits_less : (n a b : ℕ) → b ≤ a → Fits n a → Fits n b
fits_less zero a b less fits = omega (arith, less, fits)
fits_less (suc n) a b less fits = fits_less n (a * 256 + 255) (b * 256 + 255) (omega (arith, less)) fits

fits_short : (n : ℕ) → n ≤ 8 → Fits n 0
fits_short zero short = omega arith
fits_short (suc zero) short = omega arith
fits_short (suc (suc zero)) short = omega arith
fits_short (suc (suc (suc zero))) short = omega arith
fits_short (suc (suc (suc (suc zero)))) short = omega arith
fits_short (suc (suc (suc (suc (suc zero))))) short = omega arith
fits_short (suc (suc (suc (suc (suc (suc zero)))))) short = omega arith
fits_short (suc (suc (suc (suc (suc (suc (suc zero))))))) short = omega arith
fits_short (suc (suc (suc (suc (suc (suc (suc (suc zero)))))))) short = omega arith
fits_short (suc (suc (suc (suc (suc (suc (suc (suc (suc n))))))))) short = absurd (omega (arith, short))

with_letter_is : (n a b : ℕ) → b < 256 → Fits (suc n) a → with_letter a b ≡ a * 256 + b
with_letter_is n a b byte fits =
    let below = fits_below n (a * 256 + 255) fits in
    let first : (a * 256) % 2 ^ 64 ≡ a * 256 = mod-eq_of_lt (omega (arith, below)) in
    let whole : (a * 256 + b) % 2 ^ 64 ≡ a * 256 + b = mod-eq_of_lt (omega (arith, below, byte)) in
    ap (λ m. (m + b) % 2 ^ 64) first ∙ whole

fits_more : (n a b : ℕ) → b < 256 → Fits (suc n) a → Fits n (with_letter a b)
fits_more n a b byte fits =
    subst (Fits n) (sym (with_letter_is n a b byte fits)) (fits_less n (a * 256 + 255) (a * 256 + b) (omega (arith, byte)) fits)

same_digits : (a b x y : ℕ) → x < 256 → y < 256 → a * 256 + x ≡ b * 256 + y → (a ≡ b) × (x ≡ y)
same_digits a b x y below_x below_y same = (omega (arith, below_x, below_y, same), omega (arith, below_x, below_y, same))

-- as many letters that are one number are the same
same_letters : (xs ys : List ℕ) (a b : ℕ) → length xs ≡ length ys → are_bytes xs ≡ true → are_bytes ys ≡ true → Fits (length xs) a → Fits (length xs) b
    → letters_on a xs ≡ letters_on b ys → (a ≡ b) × (xs ≡ ys)
same_letters [] [] a b len bytes_x bytes_y fits_a fits_b same = (same, refl)
same_letters [] (y ∷ ys) a b len bytes_x bytes_y fits_a fits_b same = absurd (omega (arith, len))
same_letters (x ∷ xs) [] a b len bytes_x bytes_y fits_a fits_b same = absurd (omega (arith, len))
same_letters (x ∷ xs) (y ∷ ys) a b len bytes_x bytes_y fits_a fits_b same =
    let n = length xs in
    let below_x : x < 256 = ltb-true _ _ (and_parts _ _ bytes_x).0 in
    let below_y : y < 256 = ltb-true _ _ (and_parts _ _ bytes_y).0 in
    let rest = same_letters xs ys (with_letter a x) (with_letter b y) (omega (arith, len)) (and_parts _ _ bytes_x).1 (and_parts _ _ bytes_y).1
    (fits_more n a x below_x fits_a) (fits_more n b y below_y fits_b) same in
    let digits = same_digits a b x y below_x below_y (sym (with_letter_is n a x below_x fits_a) ∙ rest.0 ∙ with_letter_is n b y below_y fits_b) in
    (digits.0, ap (λ d. d ∷ xs) digits.1 ∙ ap (λ l. y ∷ l) rest.1)

-- a reserved word has so many letters, which are this number
abbrev Spells : ℕ → ℕ → Keyword → Type 0
Spells len letters k = (length (low_of k) ≡ len) × (letters_on 0 (low_of k) ≡ letters)

picked : (len letters n m : ℕ) (k : Keyword) (rest : Option Keyword) (test : Bool) → (len == n && letters == m) ≡ test → Spells n m k
    → IfSome rest (Spells len letters) → IfSome (cond test (Some k) rest) (Spells len letters)
picked len letters n m k rest true h of_k of_rest =
    let tests = and_parts _ _ h in
    (of_k.0 ∙ sym (eqb-true len n tests.0), of_k.1 ∙ sym (eqb-true letters m tests.1))
picked len letters n m k rest false h of_k of_rest = of_rest

pick : (len letters n m : ℕ) (k : Keyword) (rest : Option Keyword) → Spells n m k → IfSome rest (Spells len letters)
    → IfSome (cond (len == n && letters == m) (Some k) rest) (Spells len letters)
pick len letters n m k rest of_k of_rest = picked len letters n m k rest (len == n && letters == m) refl of_k of_rest

reserved_spells : (len letters : ℕ) → IfSome (reserved len letters) (Spells len letters)
reserved_spells len letters =
    (pick len letters 2 0x62_79 keyword.By _ (refl, refl)
    (pick len letters 2 0x69_73 keyword.Is _ (refl, refl)
    (pick len letters 2 0x6f_6e keyword.On _ (refl, refl)
    (pick len letters 2 0x6f_72 keyword.Or _ (refl, refl)
    (pick len letters 2 0x74_6f keyword.To _ (refl, refl)
    (pick len letters 3 0x61_6e_64 keyword.And _ (refl, refl)
    (pick len letters 3 0x65_6e_64 keyword.End _ (refl, refl)
    (pick len letters 3 0x69_6e_74 keyword.Int _ (refl, refl)
    (pick len letters 3 0x6b_65_79 keyword.Key _ (refl, refl)
    (pick len letters 3 0x6e_6f_74 keyword.Not _ (refl, refl)
    (pick len letters 3 0x73_65_74 keyword.Set _ (refl, refl)
    (pick len letters 3 0x73_75_6d keyword.Sum _ (refl, refl)
    (pick len letters 4 0x66_72_6f_6d keyword.From _ (refl, refl)
    (pick len letters 4 0x69_6e_74_6f keyword.Into _ (refl, refl)
    (pick len letters 4 0x6a_6f_69_6e keyword.Join _ (refl, refl)
    (pick len letters 4 0x6e_75_6c_6c keyword.Null _ (refl, refl)
    (pick len letters 4 0x6f_6e_6c_79 keyword.Only _ (refl, refl)
    (pick len letters 4 0x72_65_61_64 keyword.Read _ (refl, refl)
    (pick len letters 4 0x74_65_78_74 keyword.Text _ (refl, refl)
    (pick len letters 5 0x62_65_67_69_6e keyword.Begin _ (refl, refl)
    (pick len letters 5 0x63_6f_75_6e_74 keyword.Count _ (refl, refl)
    (pick len letters 5 0x67_72_6f_75_70 keyword.Group _ (refl, refl)
    (pick len letters 5 0x74_61_62_6c_65 keyword.Table _ (refl, refl)
    (pick len letters 5 0x77_68_65_72_65 keyword.Where _ (refl, refl)
    (pick len letters 6 0x63_6f_6d_6d_69_74 keyword.Commit _ (refl, refl)
    (pick len letters 6 0x63_72_65_61_74_65 keyword.Create _ (refl, refl)
    (pick len letters 6 0x64_65_6c_65_74_65 keyword.Delete _ (refl, refl)
    (pick len letters 6 0x69_6e_73_65_72_74 keyword.Insert _ (refl, refl)
    (pick len letters 6 0x73_65_6c_65_63_74 keyword.Select _ (refl, refl)
    (pick len letters 6 0x75_70_64_61_74_65 keyword.Update _ (refl, refl)
    (pick len letters 6 0x76_61_6c_75_65_73 keyword.Values _ (refl, refl)
    (pick len letters 7 0x70_72_69_6d_61_72_79 keyword.Primary _ (refl, refl)
    (pick len letters 7 0x72_65_6c_65_61_73_65 keyword.Release _ (refl, refl)
    (pick len letters 7 0x73_65_73_73_69_6f_6e keyword.Session _ (refl, refl)
    (pick len letters 8 0x72_6f_6c_6c_62_61_63_6b keyword.Rollback _ (refl, refl)
    (pick len letters 8 0x73_63_68_65_64_75_6c_65 keyword.Schedule _ (refl, refl)
    tt))))))))))))))))))))))))))))))))))))

-- the reserved word by the number of its letters, where they are few enough
abbrev by_number : List ℕ → Option Keyword
by_number low = cond (nat_le (length low) 8) (reserved (length low) (letters_on 0 low)) (among keywords low)

number_found : (k : Keyword) → by_number (low_of k) ≡ Some k
number_found keyword.And = refl
number_found _ = refl

bytes_of : (k : Keyword) → are_bytes (low_of k) ≡ true
bytes_of keyword.And = refl
bytes_of _ = refl

spelled_by : (low : List ℕ) (found : Option Keyword) → are_bytes low ≡ true → length low ≤ 8 → IfSome found (Spells (length low) (letters_on 0 low)) → IfSome found (λ k. low_of k ≡ low)
spelled_by low None bytes short spells = tt
spelled_by low (Some k) bytes short spells =
    let fits : Fits (length (low_of k)) 0 = fits_short (length (low_of k)) (omega (arith, short, spells.0)) in
    (same_letters (low_of k) low 0 0 spells.0 (bytes_of k) bytes fits fits spells.1).1

number_spelled : (low : List ℕ) (short : Bool) → nat_le (length low) 8 ≡ short → are_bytes low ≡ true
    → IfSome (cond short (reserved (length low) (letters_on 0 low)) (among keywords low)) (λ k. low_of k ≡ low)
number_spelled low true h bytes = spelled_by low (reserved (length low) (letters_on 0 low)) bytes (leb-true (length low) 8 h) (reserved_spells (length low) (letters_on 0 low))
number_spelled low false h bytes = among_spelled low

by_number_is : (low : List ℕ) → are_bytes low ≡ true → by_number low ≡ among keywords low
unfolding keyword_of
by_number_is low bytes =
    same_found by_number (among keywords) low_of number_found (λ k. word_found k) low (by_number low) (among keywords low) refl refl
    (number_spelled low (nat_le (length low) 8) refl bytes)
    (among_spelled low)

short_word : (bytes : List ℕ) (len letters : ℕ) → len ≤ 8 → (length (first_low bytes) ≡ len) × (letters_on 0 (first_low bytes) ≡ letters)
    → reserved len letters ≡ keyword_of (take (word_len bytes) bytes)
unfolding keyword_of
short_word bytes len letters short is =
    let low = first_low bytes in
    let few : nat_le (length low) 8 ≡ true = grind (arith, short, is.0) in
    let by : by_number low ≡ reserved (length low) (letters_on 0 low) = rw few refl in
    ap (λ n. reserved n letters) (sym is.0) ∙ ap (reserved (length low)) (sym is.1) ∙ sym by ∙ by_number_is low (low_bytes bytes) ∙ ap (among keywords) (low_is bytes)

-- the reserved word that a word of up to eight bytes is, by the number of its letters
pub of_letters : (bytes : List ℕ) (len letters : ℕ) → len ≤ 8 → word_on 0 0 bytes ≡ (len, letters) → reserved len letters ≡ keyword_of (take (word_len bytes) bytes)
of_letters bytes len letters short is =
    let whole = sym (word_is bytes 0 0) ∙ is in
    let n : length (first_low bytes) ≡ 0 + length (first_low bytes) = omega arith in
    short_word bytes len letters short (n ∙ ap (λ word. word.0) whole, ap (λ word. word.1) whole)
