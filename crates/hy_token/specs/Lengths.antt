-- How many bytes of each kind stand first in a list of bytes.
use Rattle.std.specs.Prelude.{ℕ, ◌+◌, Bool, true, false, not, ◌||◌, ◌==◌, nat_lt, if◌then◌else◌, Option, Some, None, List, [], ◌∷◌, nat_eq, codes}
use Rattle.std.specs.List.{prefix_len, starts_with}
use Rattle.std.specs.Option.{option_map}
use Rattle.std.specs.Char.{is_ascii_alphabetic, is_ascii_alphanumeric, is_ascii_digit, to_ascii_lowercase}

-- a space, a tab, a carriage return or a line feed
abbrev pub is_space : ℕ → Bool
is_space b = b == 32 || b == 9 || b == 13 || b == 10

-- what spaces and comments begin with
abbrev pub separates : ℕ → Bool
separates b = is_space b || b == 45

-- any byte but a line feed
abbrev pub is_within_line : ℕ → Bool
is_within_line b = not (b == 10)

-- the space or the comment that stands first, a comment up to its line feed
abbrev pub piece_len : List ℕ → ℕ
piece_len [] = 0
piece_len (b ∷ bs) =
    if is_space b then 1
    else (if starts_with nat_eq (b ∷ bs) (codes "--") then prefix_len is_within_line (b ∷ bs)
    else 0)

-- What separates tokens, where the first argument says whether a comment is open. Two minus signs
-- open a comment, and the line feed after it closes it, and is a space itself.
abbrev pub blank_from : Bool → List ℕ → ℕ
blank_from comment [] = 0
blank_from true (b ∷ bs) = 1 + blank_from (is_within_line b) bs
blank_from false (b ∷ bs) =
    if is_space b then 1 + blank_from false bs
    else (if starts_with nat_eq (b ∷ bs) (codes "--") then 1 + blank_from true bs
    else 0)

-- spaces and comments
unfoldable pub blank_len : List ℕ → ℕ
blank_len bytes = blank_from false bytes

-- what a word begins with: an ASCII letter or `_`
abbrev pub begins_word : ℕ → Bool
begins_word b = is_ascii_alphabetic b || b == 95

-- what a word goes on with: an ASCII letter, a digit or `_`
abbrev pub continues_word : ℕ → Bool
continues_word b = is_ascii_alphanumeric b || b == 95

-- a byte that a word goes on with in lower case, and 0 for any other
abbrev pub small : ℕ → ℕ
small b = if continues_word b then to_ascii_lowercase b else 0

-- the longest run of letters, digits and `_`
abbrev pub word_len : List ℕ → ℕ
word_len bytes = prefix_len continues_word bytes

-- the longest run of digits
abbrev pub digits_len : List ℕ → ℕ
digits_len bytes = prefix_len is_ascii_digit bytes

-- What follows the quote that opens a text, through the quote that closes it; none where a character
-- below U+0020 or the end comes first. 39 is the quote, and two of them stand for one in the text.
abbrev pub text_rest_len : List ℕ → Option ℕ
text_rest_len [] = None
text_rest_len (b ∷ []) = if b == 39 then Some 1 else None
text_rest_len (b ∷ c ∷ bs) =
    if b == 39 then (if c == 39 then option_map (λ n. 2 + n) (text_rest_len bs) else Some 1)
    else (if nat_lt b 32 then None
    else option_map (λ n. 1 + n) (text_rest_len (c ∷ bs)))
