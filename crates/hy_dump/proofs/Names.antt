-- Names are words, and so texts of ASCII.
use Rattle.std.specs.List.{prefix_len, AllByRecursion}
use Rattle.std.specs.Str.{IsAscii}
use Rattle.std.proofs.Common.{◌≡◌, ℕ, zero, suc, ◌+◌, ◌<◌, ◌≤◌, Bool, true, false, cond, List, [], ◌∷◌, length, refl, arith}
use Rattle.std.proofs.lemmas.Bool.{leb-true}
use Rattle.std.proofs.lemmas.List.Elements.{All-from_recursion}
use Rattle.hy_token.specs.Lengths.{continues_word}
use Rattle.hy_value.specs.TextBytes.{text_of}
use Rattle.hy_dump.specs.Writable.{IsName}
use Rattle.hy_dump.proofs.Tokens.{IsWord, name_word}
use Rattle.hy_dump.proofs.ValuesRead.{text_stays}

-- a byte of a word
record IsPlain (b : ℕ) : Type 0 where
  high : 32 ≤ b
  low : b < 128

plain : (b : ℕ) → continues_word b ≡ true → IsPlain b
plain b continues = record { high = grind arith; low = grind arith }

all_plain : (bytes : List ℕ) → prefix_len continues_word bytes ≡ length bytes → AllByRecursion IsPlain bytes
all_plain [] all = tt
all_plain (b ∷ bytes) all = by_first (continues_word b) refl all (all_plain bytes)
  where
    by_first : (passes : Bool) → continues_word b ≡ passes → cond passes (1 + prefix_len continues_word bytes) 0 ≡ suc (length bytes)
        → (prefix_len continues_word bytes ≡ length bytes → AllByRecursion IsPlain bytes) → AllByRecursion IsPlain (b ∷ bytes)
    by_first true is all more = (plain b is, more (omega (arith, all)))
    by_first false is all more = absurd (omega (arith, all))

all_high : (bytes : List ℕ) → AllByRecursion IsPlain bytes → AllByRecursion (λ b. 32 ≤ b) bytes
all_high [] all = tt
all_high (b ∷ bytes) all = (all.0.high, all_high bytes all.1)

all_ascii : (bytes : List ℕ) → AllByRecursion IsPlain bytes → IsAscii bytes
all_ascii [] all = λ i. omega arith
all_ascii (b ∷ bytes) all = both (all_ascii bytes all.1)
  where
    both : IsAscii bytes → IsAscii (b ∷ bytes)
    both rest zero = let low : b < 128 = all.0.low in omega (arith, low)
    both rest (suc i) = rest i

pub name_ascii : (name : List ℕ) → IsName name → IsAscii name
name_ascii name is = all_ascii name (all_plain name (name_word name is).all)

-- a name is the text that it is
pub name_stays : (name : List ℕ) → IsName name → text_of name ≡ name
name_stays name is =
    let word : IsWord name = name_word name is in
    let short : length name ≤ 32 = leb-true (length name) 32 word.short in
    text_stays name (record { short = omega (arith, short); printable = All-from_recursion (λ b. 32 ≤ b) name (all_high name (all_plain name word.all)) })
