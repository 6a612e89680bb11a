-- The grammar of tokens. The script's bytes are a list of numbers.
use Rattle.std.specs.Prelude.{◌≡◌, ℕ, ◌+◌, ◌<◌, ◌≤◌, ◌==◌, nat_le, if◌then◌else◌, Option, Some, None, Result, Ok, Err, List, [], ◌∷◌, length, take, drop}
use Rattle.std.specs.Option.{option_map, option_map_or}
use Rattle.std.specs.Char.{is_ascii_digit}
use Rattle.hy_token.specs.Keyword.{keyword_of}
use Rattle.hy_token.specs.Lengths.{blank_len, begins_word, word_len, digits_len, text_rest_len}
use Rattle.hy_token.specs.Sign.{sign_of, sign_spelling}
use Rattle.hy_token.specs.declared.Bad.{Bad}
use Rattle.hy_token.specs.declared.Span.{Span}
use Rattle.hy_token.specs.declared.Token.{Token}
use Rattle.hy_token.specs.declared.Token.TheVariants.{Reserved, Name, Integer, Text, Sign, End}

-- a reserved word, or a name
abbrev pub word_token : List ℕ → Token
word_token word = option_map_or Reserved (keyword_of word) Name

-- the word that stands first, which is bad where its bytes are more than 32
abbrev pub first_word : List ℕ → Option (Token × ℕ)
first_word bytes =
    let len = word_len bytes in
    if nat_le len 32 then Some (word_token (take len bytes), len) else None

-- the text whose opening quote stands first
abbrev pub first_text : List ℕ → Option (Token × ℕ)
first_text bytes = option_map (λ len. (Text, 1 + len)) (text_rest_len (drop 1 bytes))

-- the longest sign that stands first
abbrev pub first_sign : List ℕ → Option (Token × ℕ)
first_sign bytes = option_map (λ sign. (Sign sign, length (sign_spelling sign))) (sign_of bytes)

-- The token that stands first, where no space and no comment does, and how many bytes it takes; none
-- where it is bad. 39 is the quote.
unfoldable pub first_token : List ℕ → Option (Token × ℕ)
first_token [] = Some (End, 0)
first_token (b ∷ bs) =
    if begins_word b then first_word (b ∷ bs)
    else (if is_ascii_digit b then Some (Integer, digits_len (b ∷ bs))
    else (if b == 39 then first_text (b ∷ bs)
    else first_sign (b ∷ bs)))

-- a token with the offset where it stands, or the offset of a bad one
abbrev pub placed : ℕ → Option (Token × ℕ) → Result (Token × Span) Bad
placed start None = Err (record { at = start })
placed start (Some found) = Ok (found.0, record { start = start; end = start + found.1 })

-- The next token of what is left of a script, `rest`, which stands at `at`.
unfoldable pub lexed : ℕ → List ℕ → Result (Token × Span) Bad
lexed at rest = placed (at + blank_len rest) (first_token (drop (blank_len rest) rest))

-- the next token of a script from an offset on
abbrev pub token_at : List ℕ → ℕ → Result (Token × Span) Bad
token_at bytes at = lexed at (drop at bytes)

-- Where a token stands in a script of `len` bytes, from the offset `at` on: the end where nothing is
-- left, and any other token over one byte or more.
abbrev pub MovesOn : ℕ → ℕ → Token → Span → Type 0
MovesOn len at End span = (at ≤ len) × (span.start ≡ len) × (span.end ≡ len)
MovesOn len at _ span = (at ≤ span.start) × (span.start < span.end) × (span.end ≤ len)

-- a span within a script of `len` bytes, from the offset `at` on
pub record LiesWithin (len at : ℕ) (span : Span) : Type 0 where
  pub after : at ≤ span.start
  pub ordered : span.start ≤ span.end
  pub within : span.end ≤ len

-- a token seen from k bytes further on
abbrev pub moved_on : ℕ → Result (Token × Span) Bad → Result (Token × Span) Bad
moved_on k (Ok found) = Ok (found.0, record { start = k + found.1.start; end = k + found.1.end })
moved_on k (Err bad) = Err (record { at = k + bad.at })
