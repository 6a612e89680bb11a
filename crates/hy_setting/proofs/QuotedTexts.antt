-- A text that stands in a script of UTF-8 is UTF-8 itself, without its quotes.
use Rattle.std.specs.Prelude.{nat_lt, ◌-◌, ◌==◌}
use Rattle.std.specs.Char.{is_ascii_digit}
use Rattle.std.specs.Option.{option_map, option_map_or}
use Rattle.std.specs.Str.{IsAscii, IsUtf8}
use Rattle.std.proofs.Common.{◌≡◌, ℕ, zero, suc, ◌+◌, ◌<◌, Bool, true, false, cond, List, [], ◌∷◌, ◌++◌, length, get_or, take, drop, Option, None, Some, Result, Ok, Err, refl, sym, ap, subst, ◌∙◌, append_assoc, arith}
use Rattle.std.proofs.lemmas.Bool.{eqb-true, leb-true}
use Rattle.std.proofs.lemmas.List.{append-nil, drop-drop, drop_at, take_at, take-append-drop, length-append}
use Rattle.std.proofs.lemmas.Str.{IsUtf8-append, IsUtf8-from_ascii, IsUtf8-drop, IsUtf8-take, IsCharBoundary-after_ascii, IsCharBoundary-before_ascii}
use Rattle.std.proofs.Math.Seq.{get_or-append_seam}
use Rattle.hy_token.specs.declared.Bad.{Bad}
use Rattle.hy_token.specs.declared.Keyword.{Keyword}
use Rattle.hy_token.specs.declared.Sign.{Sign}
use Rattle.hy_token.specs.declared.Span.{Span}
use Rattle.hy_token.specs.declared.Token.{Token}
use Rattle.hy_token.specs.declared.Token.TheVariants as token
use Rattle.hy_token.specs.Keyword.{keyword_of}
use Rattle.hy_token.specs.Lengths.{blank_len, begins_word, word_len, digits_len, text_rest_len}
use Rattle.hy_token.specs.Sign.{sign_of, sign_spelling}
use Rattle.hy_token.specs.Token.{word_token, first_word, first_text, first_sign, first_token, placed, lexed, token_at}
use Rattle.hy_bind.specs.Literals.{text_of_span, unquoted_rest, unquoted}

-- ---- texts that are cut at an ASCII byte

-- both parts around an ASCII byte are UTF-8
parts_utf8 : (front bytes : List ℕ) (b : ℕ) → b < 128 → IsUtf8 (front ++ b ∷ bytes) → IsUtf8 front × IsUtf8 bytes
parts_utf8 front bytes b ascii utf8 =
    let all : List ℕ = front ++ b ∷ bytes in
    let there : get_or all (length front) 0 ≡ b = get_or-append_seam front b bytes 0 in
    let within : length front < length all = omega (arith, length-append front (b ∷ bytes)) in
    let small : get_or all (length front) 0 < 128 = omega (arith, there, ascii) in
    let before : IsUtf8 (take (length front) all) = IsUtf8-take all (length front) utf8 (IsCharBoundary-before_ascii all (length front) within small) in
    let behind : IsUtf8 (drop (length front + 1) all) =
    IsUtf8-drop all (length front + 1) utf8 (IsCharBoundary-after_ascii all (length front) utf8 within small) in
    let rest : drop (length front + 1) all ≡ bytes =
    ap (drop (length front + 1)) (sym (append_assoc front (b ∷ []) bytes))
    ∙ drop_at (front ++ b ∷ []) bytes (length front + 1) (length-append front (b ∷ [])) in
    (subst IsUtf8 (take_at front (b ∷ bytes) (length front) refl) before, subst IsUtf8 rest behind)

quote_utf8 : IsUtf8 (39 ∷ [])
quote_utf8 = IsUtf8-from_ascii (39 ∷ []) ascii
  where
    ascii : IsAscii (39 ∷ [])
    ascii zero = omega arith
    ascii (suc i) = omega arith

-- ---- a text without its quotes

-- so many bytes up to a closing quote are UTF-8 without it, behind some that are there already
abbrev Unquotes : List ℕ → List ℕ → ℕ → Type 0
Unquotes front bytes len = IsUtf8 (front ++ unquoted_rest (take len bytes))

-- a quote that closes
closed : (front bytes : List ℕ) (b : ℕ) → (b == 39) ≡ true → IsUtf8 (front ++ b ∷ bytes) → Unquotes front (b ∷ bytes) 1
closed front bytes b is utf8 =
    let none : unquoted_rest (take 1 (b ∷ bytes)) ≡ [] = rw is refl in
    let small : b < 128 = let same : b ≡ 39 = eqb-true b 39 is in omega (arith, same) in
    subst IsUtf8 (sym (ap (λ (rest : List ℕ). front ++ rest) none ∙ append-nil front)) (parts_utf8 front bytes b small utf8).0

-- two quotes, which stand for one
doubled : (front bytes : List ℕ) (b c n : ℕ) → (b == 39) ≡ true → (c == 39) ≡ true → Unquotes (front ++ 39 ∷ []) bytes n
    → Unquotes front (b ∷ c ∷ bytes) (suc (suc n))
doubled front bytes b c n is also more =
    let one : unquoted_rest (take (suc (suc n)) (b ∷ c ∷ bytes)) ≡ 39 ∷ unquoted_rest (take n bytes) = rw (is, also) refl in
    subst IsUtf8 (append_assoc front (39 ∷ []) (unquoted_rest (take n bytes)) ∙ sym (ap (λ (rest : List ℕ). front ++ rest) one)) more

-- what two quotes leave
past_two : (front bytes : List ℕ) (b c : ℕ) → (b == 39) ≡ true → (c == 39) ≡ true → IsUtf8 (front ++ b ∷ c ∷ bytes)
    → IsUtf8 ((front ++ 39 ∷ []) ++ bytes)
past_two front bytes b c is also utf8 =
    let first : b < 128 = let same : b ≡ 39 = eqb-true b 39 is in omega (arith, same) in
    let second : c < 128 = let same : c ≡ 39 = eqb-true c 39 also in omega (arith, same) in
    let around : IsUtf8 front × IsUtf8 (c ∷ bytes) = parts_utf8 front (c ∷ bytes) b first utf8 in
    let rest : IsUtf8 bytes = (parts_utf8 [] bytes c second around.1).1 in
    IsUtf8-append (front ++ 39 ∷ []) bytes (IsUtf8-append front (39 ∷ []) around.0 quote_utf8) rest

-- a byte that is no quote
unquoted_kept : (b : ℕ) (bytes : List ℕ) → (b == 39) ≡ false → unquoted_rest (b ∷ bytes) ≡ b ∷ unquoted_rest bytes
unquoted_kept b [] other = rw other refl
unquoted_kept b (c ∷ bytes) other = rw other refl

kept : (front bytes : List ℕ) (b n : ℕ) → (b == 39) ≡ false → Unquotes (front ++ b ∷ []) bytes n → Unquotes front (b ∷ bytes) (suc n)
kept front bytes b n other more =
    subst IsUtf8 (append_assoc front (b ∷ []) (unquoted_rest (take n bytes))
    ∙ sym (ap (λ (rest : List ℕ). front ++ rest) (unquoted_kept b (take n bytes) other))) more

-- how many bytes there are, where there are some more than were found
more_found : (k : ℕ) (found : Option ℕ) (len : ℕ) → option_map (λ (n : ℕ). k + n) found ≡ Some len → (n : ℕ) × (found ≡ Some n) × (k + n ≡ len)
more_found k None len e = absurd cc
more_found k (Some n) len e = (n, refl, cc)

-- the bytes up to the quote that closes a text are UTF-8 without their quotes
unquotes : (front bytes : List ℕ) (len : ℕ) → IsUtf8 (front ++ bytes) → text_rest_len bytes ≡ Some len → Unquotes front bytes len
unquotes front [] len utf8 e = absurd cc
unquotes front (b ∷ []) len utf8 e = by_quote (b == 39) refl e
  where
    by_quote : (quote : Bool) → (b == 39) ≡ quote → cond {A = Option ℕ} quote (Some 1) None ≡ Some len → Unquotes front (b ∷ []) len
    by_quote true is e = let one : 1 ≡ len = cc in subst (Unquotes front (b ∷ [])) one (closed front [] b is utf8)
    by_quote false is e = absurd cc
unquotes front (b ∷ c ∷ bytes) len utf8 e =
    by_quote (b == 39) refl e (unquotes (front ++ 39 ∷ []) bytes) (unquotes (front ++ b ∷ []) (c ∷ bytes))
  where
    by_second : (quote : Bool) → (b == 39) ≡ true → (c == 39) ≡ quote
        → cond {A = Option ℕ} quote (option_map (λ (n : ℕ). 2 + n) (text_rest_len bytes)) (Some 1) ≡ Some len
        → ((n : ℕ) → IsUtf8 ((front ++ 39 ∷ []) ++ bytes) → text_rest_len bytes ≡ Some n → Unquotes (front ++ 39 ∷ []) bytes n)
        → Unquotes front (b ∷ c ∷ bytes) len
    by_second true is also e more =
        let found = more_found 2 (text_rest_len bytes) len e in
        let many : suc (suc found.0) ≡ len = omega (arith, found.2) in
        subst (Unquotes front (b ∷ c ∷ bytes)) many
        (doubled front bytes b c found.0 is also (more found.0 (past_two front bytes b c is also utf8) found.1))
    by_second false is also e more = let one : 1 ≡ len = cc in subst (Unquotes front (b ∷ c ∷ bytes)) one (closed front (c ∷ bytes) b is utf8)

    by_control : (control : Bool) → (b == 39) ≡ false → cond {A = Option ℕ} control None (option_map (λ (n : ℕ). 1 + n) (text_rest_len (c ∷ bytes))) ≡ Some len
        → ((n : ℕ) → IsUtf8 ((front ++ b ∷ []) ++ c ∷ bytes) → text_rest_len (c ∷ bytes) ≡ Some n → Unquotes (front ++ b ∷ []) (c ∷ bytes) n)
        → Unquotes front (b ∷ c ∷ bytes) len
    by_control true other e more = absurd cc
    by_control false other e more =
        let found = more_found 1 (text_rest_len (c ∷ bytes)) len e in
        let many : suc found.0 ≡ len = omega (arith, found.2) in
        let same : IsUtf8 ((front ++ b ∷ []) ++ c ∷ bytes) = subst IsUtf8 (sym (append_assoc front (b ∷ []) (c ∷ bytes))) utf8 in
        subst (Unquotes front (b ∷ c ∷ bytes)) many (kept front (c ∷ bytes) b found.0 other (more found.0 same found.1))

    by_quote : (quote : Bool) → (b == 39) ≡ quote
        → cond {A = Option ℕ} quote (cond (c == 39) (option_map (λ (n : ℕ). 2 + n) (text_rest_len bytes)) (Some 1))
        (cond (nat_lt b 32) None (option_map (λ (n : ℕ). 1 + n) (text_rest_len (c ∷ bytes)))) ≡ Some len
        → ((n : ℕ) → IsUtf8 ((front ++ 39 ∷ []) ++ bytes) → text_rest_len bytes ≡ Some n → Unquotes (front ++ 39 ∷ []) bytes n)
        → ((n : ℕ) → IsUtf8 ((front ++ b ∷ []) ++ c ∷ bytes) → text_rest_len (c ∷ bytes) ≡ Some n → Unquotes (front ++ b ∷ []) (c ∷ bytes) n)
        → Unquotes front (b ∷ c ∷ bytes) len
    by_quote true is e twice once = by_second (c == 39) is refl e twice
    by_quote false is e twice once = by_control (nat_lt b 32) is e once

-- ---- a token that is a text is quoted

-- a text of so many bytes stands first
record IsQuoted (bytes : List ℕ) (n : ℕ) : Type 0 where
  rest : List ℕ
  len : ℕ
  opens : bytes ≡ 39 ∷ rest
  closes : text_rest_len rest ≡ Some len
  many : n ≡ suc len

abbrev found : Token → ℕ → Option (Token × ℕ)
found t n = let both : Token × ℕ = (t, n) in Some both

-- which token was found, and of how many bytes
which : (t : Token) (k n : ℕ) → found t k ≡ found token.Text n → (t ≡ token.Text) × (k ≡ n)
which t k n e =
    let here : Token × ℕ = (t, k) in
    let there : Token × ℕ = (token.Text, n) in
    let same : here ≡ there = cc in
    (ap (λ (p : Token × ℕ). p.0) same, ap (λ (p : Token × ℕ). p.1) same)

no_keyword : (keyword : Option Keyword) → option_map_or token.Reserved keyword token.Name ≡ token.Text → ⊥
no_keyword None e = absurd cc
no_keyword (Some keyword) e = absurd cc

no_word : (bytes : List ℕ) (n : ℕ) (short : Bool)
    → cond {A = Option (Token × ℕ)} short (Some (word_token (take (word_len bytes) bytes), word_len bytes)) None ≡ Some (token.Text, n) → ⊥
no_word bytes n true e = no_keyword (keyword_of (take (word_len bytes) bytes)) (which (word_token (take (word_len bytes) bytes)) (word_len bytes) n e).0
no_word bytes n false e = absurd cc

no_sign : (sign : Option Sign) (n : ℕ) → option_map {U = Token × ℕ} (λ (sign : Sign). (token.Sign sign, length (sign_spelling sign))) sign ≡ Some (token.Text, n) → ⊥
no_sign None n e = absurd cc
no_sign (Some sign) n e = let same = (which (token.Sign sign) (length (sign_spelling sign)) n e).0 in absurd cc

text_is : (b : ℕ) (bytes : List ℕ) (n : ℕ) (len : Option ℕ) → (b == 39) ≡ true → text_rest_len bytes ≡ len
    → option_map {U = Token × ℕ} (λ (len : ℕ). (token.Text, 1 + len)) len ≡ Some (token.Text, n) → IsQuoted (b ∷ bytes) n
text_is b bytes n None is closes e = absurd cc
text_is b bytes n (Some len) is closes e = record {
  rest = bytes;
  len = len;
  opens = ap (λ (first : ℕ). first ∷ bytes) (eqb-true b 39 is);
  closes = closes;
  many = let same = (which token.Text (1 + len) n e).1 in omega (arith, same);
}

first_is_quoted : (bytes : List ℕ) (n : ℕ) → first_token bytes ≡ Some (token.Text, n) → IsQuoted bytes n
unfolding first_token
first_is_quoted [] n e = let same = (which token.End 0 n e).0 in absurd cc
first_is_quoted (b ∷ bytes) n e = by_kind (begins_word b) (is_ascii_digit b) (b == 39) refl e
  where
    by_kind : (word digit quote : Bool) → (b == 39) ≡ quote
        → cond {A = Option (Token × ℕ)} word (first_word (b ∷ bytes)) (cond digit (Some (token.Integer, digits_len (b ∷ bytes))) (cond quote (first_text (b ∷ bytes)) (first_sign (b ∷ bytes))))
        ≡ Some (token.Text, n) → IsQuoted (b ∷ bytes) n
    by_kind true digit quote is e = absurd (no_word (b ∷ bytes) n _ e)
    by_kind false true quote is e = let same = (which token.Integer (digits_len (b ∷ bytes)) n e).0 in absurd cc
    by_kind false false true is e = text_is b bytes n (text_rest_len bytes) is refl e
    by_kind false false false is e = absurd (no_sign (sign_of (b ∷ bytes)) n e)

placed_is_quoted : (start : ℕ) (rest : List ℕ) (found : Option (Token × ℕ)) (span : Span) → first_token rest ≡ found → placed start found ≡ Ok (token.Text, span)
    → (span.start ≡ start) × IsQuoted rest (span.end - span.start)
placed_is_quoted start rest None span is e = absurd cc
placed_is_quoted start rest (Some found) span is e =
    let here : Token × Span = (found.0, record { start = start; end = start + found.1 }) in
    let there : Token × Span = (token.Text, span) in
    let same : here ≡ there = cc in
    let name : found.0 ≡ token.Text = ap (λ (p : Token × Span). p.0) same in
    let at : span.start ≡ start = sym (ap (λ (p : Token × Span). p.1.start) same) in
    let over : span.end ≡ start + found.1 = sym (ap (λ (p : Token × Span). p.1.end) same) in
    let long : found.1 ≡ span.end - span.start = omega (arith, at, over) in
    let first : first_token rest ≡ Some (token.Text, found.1) = is ∙ ap (λ (t : Token). Some (t, found.1)) name in
    (at, subst (IsQuoted rest) long (first_is_quoted rest found.1 first))

token_is_quoted : (bytes : List ℕ) (at : ℕ) (span : Span) → token_at bytes at ≡ Ok (token.Text, span) → IsQuoted (drop span.start bytes) (span.end - span.start)
unfolding lexed
token_is_quoted bytes at span e =
    let rest = drop at bytes in
    let space = blank_len rest in
    let found = placed_is_quoted (at + space) (drop space rest) (first_token (drop space rest)) span refl e in
    let behind : drop space rest ≡ drop span.start bytes = drop-drop space at bytes ∙ ap (λ (n : ℕ). drop n bytes) (sym found.0) in
    subst (λ (rest : List ℕ). IsQuoted rest (span.end - span.start)) behind found.1

-- what follows the quote that opens a text is UTF-8
behind_quote : (bytes rest : List ℕ) (start : ℕ) → IsUtf8 bytes → drop start bytes ≡ 39 ∷ rest → IsUtf8 rest
behind_quote bytes rest start utf8 opens =
    let all : take start bytes ++ 39 ∷ rest ≡ bytes = sym (ap (λ (back : List ℕ). take start bytes ++ back) opens) ∙ take-append-drop start bytes in
    (parts_utf8 (take start bytes) rest 39 (omega arith) (subst IsUtf8 (sym all) utf8)).1

-- the text of a token is UTF-8, where the script is
pub token_text_utf8 : (bytes : List ℕ) (at : ℕ) (span : Span) → IsUtf8 bytes → token_at bytes at ≡ Ok (token.Text, span)
    → IsUtf8 (unquoted (text_of_span bytes span))
token_text_utf8 bytes at span utf8 e =
    let is = token_is_quoted bytes at span e in
    let text : unquoted (text_of_span bytes span) ≡ unquoted_rest (take is.len is.rest) =
    ap (λ (back : List ℕ). unquoted (take (span.end - span.start) back)) is.opens ∙ ap (λ (n : ℕ). unquoted (take n (39 ∷ is.rest))) is.many in
    subst IsUtf8 (sym text) (unquotes [] is.rest is.len (behind_quote bytes is.rest span.start utf8 is.opens) is.closes)
