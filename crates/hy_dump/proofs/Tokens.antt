-- Tokens where they were written: behind nothing, a space or a line feed, and before a byte that ends them.
use Rattle.std.specs.Prelude.{◌-◌, ◌==◌, nat_le, nat_lt}
use Rattle.std.specs.Char.{is_ascii_digit, digit_value}
use Rattle.std.specs.List.{flat_map, prefix_len, slice_range, AllByRecursion}
use Rattle.std.specs.Option.{option_map, option_map_or}
use Rattle.std.specs.Str.Parse.{AllDigits}
use Rattle.std.proofs.Common.{◌≡◌, ℕ, suc, ◌+◌, ◌<◌, ◌≤◌, Bool, true, false, cond, List, [], ◌∷◌, ◌++◌, length, get_or, take, take_all, drop, Option, None, Some, Ok, refl, sym, ap, ◌∙◌, append_assoc, arith}
use Rattle.std.proofs.lemmas.List.{drop-drop, drop_at, take_at, length-append}
use Rattle.std.proofs.lemmas.Str.Parse.{digit_from_value}
use Rattle.hy_token.specs.declared.Keyword.{Keyword}
use Rattle.hy_token.specs.declared.Keyword.TheVariants as keyword
use Rattle.hy_token.specs.declared.Sign.{Sign}
use Rattle.hy_token.specs.declared.Sign.TheVariants as sign
use Rattle.hy_token.specs.declared.Span.{Span}
use Rattle.hy_token.specs.declared.Token.{Token}
use Rattle.hy_token.specs.declared.Token.TheVariants as token
use Rattle.hy_token.specs.Keyword.{word_spelling}
use Rattle.hy_token.specs.Lengths.{is_space, blank_from, blank_len, begins_word, continues_word, word_len, digits_len, text_rest_len}
use Rattle.hy_token.specs.Sign.{sign_of, sign_spelling}
use Rattle.hy_token.specs.Spellings.{word_found}
use Rattle.hy_token.specs.Token.{word_token, first_word, first_text, first_sign, first_token, placed, lexed, token_at}
use Rattle.hy_value.specs.Print.{doubled_quote}

-- ---- a token behind a gap

-- what stands before a token
pub data Gap : Type 0 where
  none : Gap
  space : Gap
  feed : Gap

abbrev pub gap_text : Gap → List ℕ
gap_text none = []
gap_text space = 32 ∷ []
gap_text feed = 10 ∷ []

-- a token is what stands first, before this rest
pub record IsFirst (t : Token) (word rest : List ℕ) : Type 0 where
  pub bare : blank_from false (word ++ rest) ≡ 0
  pub first : first_token (word ++ rest) ≡ Some (t, length word)

-- a token is the next one from an offset on, is written so, and this is what is left
pub record Stands (bytes : List ℕ) (at : ℕ) (t : Token) (word rest : List ℕ) : Type 0 where
  pub span : Span
  pub token : token_at bytes at ≡ Ok (t, span)
  pub text : slice_range bytes span.start span.end ≡ word
  pub behind : drop span.end bytes ≡ rest

gap_len : (gap : Gap) (rest : List ℕ) → blank_from false rest ≡ 0 → blank_from false (gap_text gap ++ rest) ≡ length (gap_text gap)
gap_len none rest bare = bare
gap_len space rest bare = omega (arith, bare)
gap_len feed rest bare = omega (arith, bare)

past_gap : (gap : Gap) (rest : List ℕ) → drop (length (gap_text gap)) (gap_text gap ++ rest) ≡ rest
past_gap none rest = refl
past_gap space rest = refl
past_gap feed rest = refl

lexed_first : (t : Token) (gap : Gap) (at : ℕ) (word rest : List ℕ) → IsFirst t word rest
    → lexed at (gap_text gap ++ (word ++ rest))
    ≡ Ok (t, record { start = at + length (gap_text gap); end = at + length (gap_text gap) + length word })
unfolding lexed blank_len
lexed_first t gap at word rest is =
    let whole : List ℕ = gap_text gap ++ (word ++ rest) in
    let start : ℕ = at + length (gap_text gap) in
    ap (λ (n : ℕ). placed (at + n) (first_token (drop n whole))) (gap_len gap (word ++ rest) is.bare)
    ∙ (ap (λ (back : List ℕ). placed start (first_token back)) (past_gap gap (word ++ rest)) ∙ ap (placed start) is.first)

pub stands : (t : Token) (bytes : List ℕ) (at : ℕ) (gap : Gap) (word rest : List ℕ) → drop at bytes ≡ gap_text gap ++ (word ++ rest)
    → IsFirst t word rest → Stands bytes at t word rest
stands t bytes at gap word rest here is =
    let start : ℕ = at + length (gap_text gap) in
    let from : drop start bytes ≡ word ++ rest =
    sym (drop-drop (length (gap_text gap)) at bytes) ∙ (ap (drop (length (gap_text gap))) here ∙ past_gap gap (word ++ rest)) in
    let long : start + length word - start ≡ length word = omega arith in
    record {
      span = record { start = start; end = start + length word };
      token = ap (lexed at) here ∙ lexed_first t gap at word rest is;
      text = ap (λ (n : ℕ). take n (drop start bytes)) long ∙ (ap (take (length word)) from ∙ take_at word rest (length word) refl);
      behind = sym (drop-drop (length word) start bytes) ∙ (ap (drop (length word)) from ∙ drop_at word rest (length word) refl);
    }

-- ---- words

-- a byte that ends a word, a number or a text
pub data Stop : Type 0 where
  blank : Stop
  comma : Stop
  closing : Stop
  semicolon : Stop

abbrev pub stop_byte : Stop → ℕ
stop_byte blank = 32
stop_byte comma = 44
stop_byte closing = 41
stop_byte semicolon = 59

ends_word : (stop : Stop) → continues_word (stop_byte stop) ≡ false
ends_word blank = refl
ends_word _ = refl

ends_digits : (stop : Stop) → is_ascii_digit (stop_byte stop) ≡ false
ends_digits blank = refl
ends_digits _ = refl

-- a run of bytes that goes to the end goes as far before a byte that is none of them
pub run_ends : {X : Type 0} (p : X → Bool) (word rest : List X) (stop : X) → prefix_len p word ≡ length word → p stop ≡ false
    → prefix_len p (word ++ stop ∷ rest) ≡ length word
run_ends p [] rest stop all ends = rw ends refl
run_ends p (b ∷ word) rest stop all ends = by_first (p b) refl all (run_ends p word rest stop)
  where
    by_first : (passes : Bool) → p b ≡ passes → cond passes (1 + prefix_len p word) 0 ≡ suc (length word)
        → (prefix_len p word ≡ length word → p stop ≡ false → prefix_len p (word ++ stop ∷ rest) ≡ length word)
        → prefix_len p (b ∷ (word ++ stop ∷ rest)) ≡ suc (length word)
    by_first true is all more =
        let whole : prefix_len p word ≡ length word = omega (arith, all) in
        rw is (omega (arith, more whole ends))
    by_first false is all more = absurd (omega (arith, all))

-- what is neither a space nor a minus sign begins no gap
bare_byte : (b : ℕ) (bytes : List ℕ) → is_space b ≡ false → (45 == b) ≡ false → blank_from false (b ∷ bytes) ≡ 0
bare_byte b bytes visible other = rw (visible, other) refl

no_gap : (b : ℕ) → begins_word b ≡ true → (is_space b ≡ false) × ((45 == b) ≡ false)
no_gap b begins = (grind arith, grind arith)

pub record IsWord (word : List ℕ) : Type 0 where
  pub begins : begins_word (get_or word 0 0) ≡ true
  pub all : word_len word ≡ length word
  pub short : nat_le (length word) 32 ≡ true

-- the first token by whether its first byte begins a word
abbrev pub first_by : Bool → ℕ → List ℕ → Option (Token × ℕ)
first_by word b bytes =
    cond word (first_word (b ∷ bytes))
    (cond (is_ascii_digit b) (Some (token.Integer, digits_len (b ∷ bytes))) (cond (b == 39) (first_text (b ∷ bytes)) (first_sign (b ∷ bytes))))

pub first_is : (b : ℕ) (bytes : List ℕ) → first_token (b ∷ bytes) ≡ first_by (begins_word b) b bytes
unfolding first_token
first_is b bytes = refl

pub word_first : (t : Token) (word rest : List ℕ) (stop : Stop) → IsWord word → word_token word ≡ t → IsFirst t word (stop_byte stop ∷ rest)
word_first t [] rest stop is token = absurd (let no : false ≡ true = is.begins in cc)
word_first t (b ∷ word) rest stop is token =
    let bytes : List ℕ = word ++ stop_byte stop ∷ rest in
    let gap = no_gap b is.begins in
    let long : ℕ = suc (length word) in
    let all : word_len (b ∷ bytes) ≡ long = run_ends continues_word (b ∷ word) rest (stop_byte stop) is.all (ends_word stop) in
    let found : ℕ → Option (Token × ℕ) = λ (n : ℕ). Some (word_token (take n (b ∷ bytes)), n) in
    record {
      bare = bare_byte b bytes gap.0 gap.1;
      first =
          first_is b bytes
          ∙ (ap (λ (begins : Bool). first_by begins b bytes) is.begins
          ∙ (ap (λ (n : ℕ). cond {A = Option (Token × ℕ)} (nat_le n 32) (found n) None) all
          ∙ (ap (λ (short : Bool). cond {A = Option (Token × ℕ)} short (found long) None) is.short
          ∙ ap (λ (t : Token). let both : Token × ℕ = (t, long) in Some both)
          (ap word_token (take_at (b ∷ word) (stop_byte stop ∷ rest) long refl) ∙ token))));
    }

-- a word is a token alone
pub word_alone : (t : Token) (word : List ℕ) → IsWord word → word_token word ≡ t → first_token word ≡ Some (t, length word)
word_alone t [] is token = absurd (let no : false ≡ true = is.begins in cc)
word_alone t (b ∷ bytes) is token =
    let long : ℕ = suc (length bytes) in
    let found : ℕ → Option (Token × ℕ) = λ (n : ℕ). Some (word_token (take n (b ∷ bytes)), n) in
    first_is b bytes
    ∙ (ap (λ (begins : Bool). first_by begins b bytes) is.begins
    ∙ (ap (λ (n : ℕ). cond {A = Option (Token × ℕ)} (nat_le n 32) (found n) None) is.all
    ∙ (ap (λ (short : Bool). cond {A = Option (Token × ℕ)} short (found long) None) is.short
    ∙ ap (λ (t : Token). let both : Token × ℕ = (t, long) in Some both)
    (ap word_token (take_all long (b ∷ bytes) (omega arith)) ∙ token))))

-- ---- reserved words and signs

keyword_word : (k : Keyword) → IsWord (word_spelling k)
keyword_word keyword.And = record { begins = refl; all = refl; short = refl }
keyword_word _ = record { begins = refl; all = refl; short = refl }

pub keyword_first : (k : Keyword) (rest : List ℕ) (stop : Stop) → IsFirst (token.Reserved k) (word_spelling k) (stop_byte stop ∷ rest)
keyword_first k rest stop =
    word_first (token.Reserved k) (word_spelling k) rest stop (keyword_word k)
    (ap (λ (found : Option Keyword). option_map_or token.Reserved found token.Name) (word_found k))

pub opening_first : (rest : List ℕ) → IsFirst (token.Sign sign.LeftParen) (40 ∷ []) rest
unfolding first_token sign_of
opening_first rest = record { bare = refl; first = refl }

pub closing_first : (rest : List ℕ) → IsFirst (token.Sign sign.RightParen) (41 ∷ []) rest
unfolding first_token sign_of
closing_first rest = record { bare = refl; first = refl }

pub comma_first : (rest : List ℕ) → IsFirst (token.Sign sign.Comma) (44 ∷ []) rest
unfolding first_token sign_of
comma_first rest = record { bare = refl; first = refl }

pub semicolon_first : (rest : List ℕ) → IsFirst (token.Sign sign.Semicolon) (59 ∷ []) rest
unfolding first_token sign_of
semicolon_first rest = record { bare = refl; first = refl }

-- a minus sign before what is none
pub minus_first : (b : ℕ) (rest : List ℕ) → (45 == b) ≡ false → IsFirst (token.Sign sign.Minus) (45 ∷ []) (b ∷ rest)
unfolding first_token sign_of
minus_first b rest other = record { bare = rw other refl; first = refl }

-- ---- numbers

digit_bytes : (c : ℕ) → 48 ≤ c → c ≤ 57
    → (is_ascii_digit c ≡ true) × (begins_word c ≡ false) × (is_space c ≡ false) × ((45 == c) ≡ false)
digit_bytes c low high = (grind arith, grind arith, grind arith, grind arith)

digit_range : (c : ℕ) → digit_value c < 10 → (48 ≤ c) × (c ≤ 57)
digit_range c small = let range = digit_from_value c small in (omega (arith, range), omega (arith, range))

digits_all : (digits : List ℕ) → AllDigits 10 digits → prefix_len is_ascii_digit digits ≡ length digits
digits_all [] all = refl
digits_all (c ∷ digits) all =
    let range = digit_range c all.0 in
    rw (digit_bytes c range.0 range.1).0 (omega (arith, digits_all digits all.1))

pub digits_first : (digits rest : List ℕ) (stop : Stop) → 0 < length digits → AllDigits 10 digits
    → IsFirst token.Integer digits (stop_byte stop ∷ rest)
digits_first [] rest stop some all = absurd (omega (arith, some))
digits_first (c ∷ digits) rest stop some all =
    let bytes : List ℕ = digits ++ stop_byte stop ∷ rest in
    let range = digit_range c all.0 in
    let is = digit_bytes c range.0 range.1 in
    let long : digits_len (c ∷ bytes) ≡ suc (length digits) =
    run_ends is_ascii_digit (c ∷ digits) rest (stop_byte stop) (digits_all (c ∷ digits) all) (ends_digits stop) in
    let found : ℕ → Option (Token × ℕ) = λ (n : ℕ). Some (token.Integer, n) in
    record {
      bare = bare_byte c bytes is.2 is.3;
      first =
          first_is c bytes
          ∙ (ap (λ (begins : Bool). first_by begins c bytes) is.1
          ∙ (ap (λ (digit : Bool). cond {A = Option (Token × ℕ)} digit (found (digits_len (c ∷ bytes)))
          (cond (c == 39) (first_text (c ∷ bytes)) (first_sign (c ∷ bytes)))) is.0
          ∙ ap found long));
    }

-- a digit is no minus sign
pub digit_other : (digits : List ℕ) → 0 < length digits → AllDigits 10 digits → (45 == get_or digits 0 0) ≡ false
digit_other [] some all = absurd (omega (arith, some))
digit_other (c ∷ digits) some all = let range = digit_range c all.0 in (digit_bytes c range.0 range.1).3

-- ---- texts

-- a byte that is no quote
plain_byte : (b : ℕ) (bytes : List ℕ) → (b == 39) ≡ false → 32 ≤ b → text_rest_len (b ∷ bytes) ≡ option_map (λ n. 1 + n) (text_rest_len bytes)
plain_byte b [] other high = rw other refl
plain_byte b (c ∷ bytes) other high = let visible : nat_lt b 32 ≡ false = grind arith in rw (other, visible) refl

-- so many bytes up to the closing quote, and that one
abbrev quoted_len : List ℕ → ℕ
quoted_len bytes = suc (length bytes)

-- the length of a text in quotes, behind the first of these
text_len : (text rest : List ℕ) (stop : Stop) → AllByRecursion (λ b. 32 ≤ b) text
    → text_rest_len (flat_map doubled_quote text ++ 39 ∷ stop_byte stop ∷ rest) ≡ Some (quoted_len (flat_map doubled_quote text))
text_len [] rest blank high = refl
text_len [] rest comma high = refl
text_len [] rest closing high = refl
text_len [] rest semicolon high = refl
text_len (b ∷ text) rest stop high = by_quote (b == 39) refl (text_len text rest stop high.1)
  where
    by_quote : (quote : Bool) → (b == 39) ≡ quote → text_rest_len (flat_map doubled_quote text ++ 39 ∷ stop_byte stop ∷ rest) ≡ Some (quoted_len (flat_map doubled_quote text))
        → text_rest_len ((cond quote (39 ∷ 39 ∷ []) (b ∷ []) ++ flat_map doubled_quote text) ++ 39 ∷ stop_byte stop ∷ rest)
        ≡ Some (quoted_len (cond quote (39 ∷ 39 ∷ []) (b ∷ []) ++ flat_map doubled_quote text))
    by_quote true is more =
        let two : 2 + quoted_len (flat_map doubled_quote text) ≡ suc (suc (suc (length (flat_map doubled_quote text)))) = omega arith in
        ap (option_map (λ n. 2 + n)) more ∙ ap Some two
    by_quote false is more =
        let one : 1 + quoted_len (flat_map doubled_quote text) ≡ suc (suc (length (flat_map doubled_quote text))) = omega arith in
        plain_byte b (flat_map doubled_quote text ++ 39 ∷ stop_byte stop ∷ rest) is high.0 ∙ (ap (option_map (λ n. 1 + n)) more ∙ ap Some one)

-- a value's text between its quotes
pub text_first : (text rest : List ℕ) (stop : Stop) → AllByRecursion (λ b. 32 ≤ b) text
    → IsFirst token.Text ((39 ∷ []) ++ flat_map doubled_quote text ++ 39 ∷ []) (stop_byte stop ∷ rest)
text_first text rest stop high =
    let doubled : List ℕ = flat_map doubled_quote text in
    let behind : (doubled ++ 39 ∷ []) ++ stop_byte stop ∷ rest ≡ doubled ++ 39 ∷ stop_byte stop ∷ rest =
    append_assoc doubled (39 ∷ []) (stop_byte stop ∷ rest) in
    let len : text_rest_len ((doubled ++ 39 ∷ []) ++ stop_byte stop ∷ rest) ≡ Some (quoted_len doubled) =
    ap text_rest_len behind ∙ text_len text rest stop high in
    let found : ℕ → Option (Token × ℕ) = λ (n : ℕ). Some (token.Text, n) in
    let many : 1 + quoted_len doubled ≡ suc (length (doubled ++ 39 ∷ [])) = omega (arith, length-append doubled (39 ∷ [])) in
    record {
      bare = refl;
      first =
          first_is 39 ((doubled ++ 39 ∷ []) ++ stop_byte stop ∷ rest)
          ∙ (ap (option_map (λ (len : ℕ). let both : Token × ℕ = (token.Text, 1 + len) in both)) len ∙ ap found many);
    }

-- ---- names

-- a token of so many bytes
abbrev pub found : Token → ℕ → Option (Token × ℕ)
found t n = let both : Token × ℕ = (t, n) in Some both

-- which token was found, and of how many bytes
pub which : (t u : Token) (k n : ℕ) → found t k ≡ found u n → (t ≡ u) × (k ≡ n)
which t u k n e =
    let here : Token × ℕ = (t, k) in
    let there : Token × ℕ = (u, n) in
    let same : here ≡ there = cc in
    (ap (λ (p : Token × ℕ). p.0) same, ap (λ (p : Token × ℕ). p.1) same)

-- a name of so many bytes stands first
pub record IsAlone (b : ℕ) (bytes : List ℕ) (n : ℕ) : Type 0 where
  pub begins : begins_word b ≡ true
  pub short : nat_le (word_len (b ∷ bytes)) 32 ≡ true
  pub long : word_len (b ∷ bytes) ≡ n
  pub name : word_token (take (word_len (b ∷ bytes)) (b ∷ bytes)) ≡ token.Name

no_sign : (sign : Option Sign) (n : ℕ) → option_map {U = Token × ℕ} (λ (sign : Sign). (token.Sign sign, length (sign_spelling sign))) sign ≡ Some (token.Name, n) → ⊥
no_sign None n e = absurd cc
no_sign (Some sign) n e = let same = (which (token.Sign sign) token.Name (length (sign_spelling sign)) n e).0 in absurd cc

no_text : (len : Option ℕ) (n : ℕ) → option_map {U = Token × ℕ} (λ (len : ℕ). (token.Text, 1 + len)) len ≡ Some (token.Name, n) → ⊥
no_text None n e = absurd cc
no_text (Some len) n e = let same = (which token.Text token.Name (1 + len) n e).0 in absurd cc

pub alone : (b : ℕ) (bytes : List ℕ) (n : ℕ) → first_token (b ∷ bytes) ≡ Some (token.Name, n) → IsAlone b bytes n
alone b bytes n e = by_kind (begins_word b) (is_ascii_digit b) (b == 39) refl (sym (first_is b bytes) ∙ e)
  where
    by_length : (short : Bool) → begins_word b ≡ true → nat_le (word_len (b ∷ bytes)) 32 ≡ short
        → cond {A = Option (Token × ℕ)} short (Some (word_token (take (word_len (b ∷ bytes)) (b ∷ bytes)), word_len (b ∷ bytes))) None
        ≡ Some (token.Name, n) → IsAlone b bytes n
    by_length false begins short e = absurd cc
    by_length true begins short e =
        let same = which (word_token (take (word_len (b ∷ bytes)) (b ∷ bytes))) token.Name (word_len (b ∷ bytes)) (n) e in
        record { begins = begins; short = short; long = same.1; name = same.0 }

    by_kind : (word digit quote : Bool) → begins_word b ≡ word
        → cond {A = Option (Token × ℕ)} word (first_word (b ∷ bytes)) (cond digit (Some (token.Integer, digits_len (b ∷ bytes))) (cond quote (first_text (b ∷ bytes)) (first_sign (b ∷ bytes))))
        ≡ Some (token.Name, n) → IsAlone b bytes n
    by_kind true digit quote is e = by_length (nat_le (word_len (b ∷ bytes)) 32) is refl e
    by_kind false true quote is e = let same = (which token.Integer token.Name (digits_len (b ∷ bytes)) n e).0 in absurd cc
    by_kind false false true is e = absurd (no_text (text_rest_len bytes) n e)
    by_kind false false false is e = absurd (no_sign (sign_of (b ∷ bytes)) n e)

no_end : first_token [] ≡ Some (token.Name, 0) → ⊥
unfolding first_token
no_end e = let same = (which token.End token.Name 0 0 e).0 in absurd cc

-- what is a name alone is a word
record IsNamed (name : List ℕ) : Type 0 where
  word : IsWord name
  token : word_token name ≡ token.Name

named : (name : List ℕ) → first_token name ≡ Some (token.Name, length name) → IsNamed name
named [] is = absurd (no_end is)
named (b ∷ bytes) is =
    let found : IsAlone b bytes (suc (length bytes)) = alone b bytes (suc (length bytes)) is in
    let short : nat_le (suc (length bytes)) 32 ≡ true = ap (λ (n : ℕ). nat_le n 32) (sym found.long) ∙ found.short in
    let whole : take (word_len (b ∷ bytes)) (b ∷ bytes) ≡ b ∷ bytes =
    ap (λ (n : ℕ). take n (b ∷ bytes)) found.long ∙ take_all (suc (length bytes)) (b ∷ bytes) (omega arith) in
    record { word = record { begins = found.begins; all = found.long; short = short }; token = sym (ap word_token whole) ∙ found.name }

pub name_word : (name : List ℕ) → first_token name ≡ Some (token.Name, length name) → IsWord name
name_word name is = (named name is).word

-- and a name before a byte that ends a word
pub name_first : (name rest : List ℕ) (stop : Stop) → first_token name ≡ Some (token.Name, length name) → IsFirst token.Name name (stop_byte stop ∷ rest)
name_first name rest stop is = let found : IsNamed name = named name is in word_first token.Name name rest stop found.word found.token
