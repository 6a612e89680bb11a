-- Numbers are read off the front of a text.
use Rattle.std.proofs.Common.{◌≡◌, ℕ, zero, suc, ◌/◌, ◌%◌, ◌+◌, ◌<◌, ◌≤◌, ◌⊎◌, List, [], ◌∷◌, ◌++◌, ap, sym, ◌∙◌, subst, arith, lt-ltb}
use Rattle.std.proofs.lemmas.Fmt.{decimal_is_IsNumeral_wide}
use Rattle.std.proofs.lemmas.List.Elements.{All-nil, All-cons}
use Rattle.std.specs.Fmt.{decimal, signed_decimal, digits, digits_onto, digit_glyph}
use Rattle.std.specs.Str.Parse.{digits_value}
use Rattle.std.specs.Prelude.{ℤ, pos, negsuc, Bool, true, false, cond, if◌then◌else◌, ◌==◌}
use Rattle.std.specs.List.{All}
use Rattle.hy_render.specs.Named.{IsPrinted, IsPrintedSigned}
use Rattle.hy_render.proofs.Reading.{Reads, Begins, fronts, begins_longer, begins_weaker, behind_first}

-- a digit
abbrev pub IsDigit : ℕ → Type 0
IsDigit b = (48 ≤ b) × (b < 58)

-- a digit or the sign in front
abbrev pub IsDigitOrSign : ℕ → Type 0
IsDigitOrSign b = (45 ≤ b) × (b < 58)

-- what follows a value or a number: a line's end, a space or a bar
abbrev pub EndsValue : List ℕ → Type 0
EndsValue x = Begins (λ b. (b ≡ 10) ⊎ ((b ≡ 32) ⊎ (b ≡ 124))) x

-- bytes are digits, and there are some
pub record AreDigits (ds : List ℕ) : Type 0 where
  pub some : Begins IsDigit ds
  pub all : All IsDigit ds

-- the digit of a number below ten
is_digit : (d : ℕ) → d < 10 → IsDigit (digit_glyph false d)
is_digit d h = let is : digit_glyph false d ≡ 48 + d = ap (λ b. cond b (48 + d) (87 + d)) (lt-ltb d 10 h) in (omega arith, omega arith)

-- the one or the other
either : (test : Bool) (ds es : List ℕ) → AreDigits ds → AreDigits es → AreDigits (if test then ds else es)
either true ds es h k = h
either false ds es h k = k

-- digits written before digits are digits
written_digits : (k n d : ℕ) (ds : List ℕ) → IsDigit d → All IsDigit ds → AreDigits (digits_onto k 10 false n (d ∷ ds))
written_digits zero n d ds h all = record { some = h; all = All-cons IsDigit d ds h all }
written_digits (suc k) n d ds h all =
    let next : IsDigit (digit_glyph false (n % 10)) = is_digit (n % 10) (omega arith) in
    let more = All-cons IsDigit d ds h all in
    either (n / 10 == 0) _ _ (record { some = next; all = All-cons IsDigit _ (d ∷ ds) next more }) (written_digits k (n / 10) _ (d ∷ ds) next more)

-- a number is written in digits
pub decimal_digits : (n : ℕ) → AreDigits (decimal n)
unfolding digits
decimal_digits n =
    let last : IsDigit (digit_glyph false (n % 10)) = is_digit (n % 10) (omega arith) in
    either (n / 10 == 0) _ _ (record { some = last; all = All-cons IsDigit _ [] last (All-nil IsDigit) }) (written_digits 63 (n / 10) _ [] last (All-nil IsDigit))

-- digits in front of texts, read as text
pub reads_digits : (m n : ℕ) (x y : List ℕ) → EndsValue x → EndsValue y → decimal m ++ x ≡ decimal n ++ y → (decimal m ≡ decimal n) × (x ≡ y)
reads_digits m n x y h i e = fronts IsDigit (decimal m) (decimal n) x y (decimal_digits m).all (decimal_digits n).all (no_digit x h) (no_digit y i) e
  where
    no_digit : (z : List ℕ) → EndsValue z → Begins (λ b. IsDigit b → ⊥) z
    no_digit [] l = l
    no_digit (b ∷ z) l = λ d. omega arith

-- numbers that are printed are read
pub reads_number : Reads IsPrinted EndsValue decimal
reads_number m n x y k l h i e =
    let read = reads_digits m n x y h i e in
    (sym (decimal_is_IsNumeral_wide m k).1 ∙ (ap (digits_value 10) read.0 ∙ (decimal_is_IsNumeral_wide n l).1), read.1)

-- no number without a sign is one with it
no_sign : (n : ℕ) (x y : List ℕ) → decimal n ++ x ≡ 45 ∷ y → ⊥
no_sign n x y e = let sign : IsDigit 45 = subst (Begins IsDigit) e (begins_longer IsDigit (decimal n) x (decimal_digits n).some) in omega arith

-- so are those with a sign
pub reads_signed : Reads IsPrintedSigned EndsValue signed_decimal
reads_signed (pos m) (pos n) x y k l h i e = let read = reads_number m n x y k l h i e in (ap pos read.0, read.1)
reads_signed (pos m) (negsuc n) x y k l h i e = absurd (no_sign m x _ e)
reads_signed (negsuc m) (pos n) x y k l h i e = absurd (no_sign n y _ (sym e))
reads_signed (negsuc m) (negsuc n) x y k l h i e =
    let read = reads_number (suc m) (suc n) x y k l h i (behind_first 45 45 _ _ e) in
    let same : m ≡ n = omega (arith, read.0) in
    (ap negsuc same, read.1)

-- a number begins with a digit or the sign
pub signed_begins : (z : ℤ) → Begins IsDigitOrSign (signed_decimal z)
signed_begins (pos n) = begins_weaker IsDigit IsDigitOrSign (λ b h. (omega arith, omega arith)) (decimal n) (decimal_digits n).some
signed_begins (negsuc n) = (omega arith, omega arith)
