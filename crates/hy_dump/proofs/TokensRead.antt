-- The tokens of a statement that was parsed: its names are words, and its texts are UTF-8 without their quotes.
use Rattle.std.specs.Prelude.{◌-◌, ◌==◌, nat_le, nat_lt, Option}
use Rattle.std.specs.Char.{is_ascii_digit}
use Rattle.std.specs.List.{prefix_len, AllByRecursion}
use Rattle.std.specs.Option.{option_map, option_map_or}
use Rattle.std.specs.Str.{IsUtf8}
use Rattle.std.proofs.Common.{◌≡◌, ℕ, zero, suc, ◌+◌, ◌<◌, Bool, true, false, cond, List, [], ◌∷◌, ◌++◌, length, get_or, take, drop, Some, None, Result, Ok, Err, refl, sym, ap, subst, ◌∙◌, append_assoc, arith}
use Rattle.std.proofs.lemmas.Bool.{eqb-true}
use Rattle.std.proofs.lemmas.List.{append-nil, drop-drop, get_or-drop, length-drop}
use Rattle.std.proofs.lemmas.List.Folds.{length-prefix_len}
use Rattle.std.proofs.lemmas.Str.{IsUtf8-append, IsUtf8-drop, IsUtf8-take, IsCharBoundary-after_ascii, IsCharBoundary-before_ascii}
use Rattle.hy_token.specs.declared.Bad.{Bad}
use Rattle.hy_token.specs.declared.Keyword.{Keyword}
use Rattle.hy_token.specs.declared.Sign.{Sign}
use Rattle.hy_token.specs.declared.Sign.TheVariants.{Semicolon}
use Rattle.hy_token.specs.declared.Span.{Span}
use Rattle.hy_token.specs.declared.Token.{Token}
use Rattle.hy_token.specs.declared.Token.TheVariants as token
use Rattle.hy_token.specs.Keyword.{keyword_of}
use Rattle.hy_token.specs.Lengths.{blank_len, begins_word, continues_word, digits_len, word_len, text_rest_len}
use Rattle.hy_token.specs.Sign.{sign_of, sign_spelling}
use Rattle.hy_token.specs.Token.{first_sign, first_text, first_token, first_word, placed, lexed, token_at, word_token}
use Rattle.hy_ast.specs.Trees.{Statement}
use Rattle.hy_parse.specs.declared.Piece.{Piece}
use Rattle.hy_parse.specs.Grammar.{Mark, Any, At, Marks, Match, marks}
use Rattle.hy_parse.specs.Parsing.{Parses, parsed}
use Rattle.hy_parse.specs.Pieces.{ended, continued, pieces_within, most_pieces, pieces_of}
use Rattle.hy_bind.specs.Literals.{text_of_span, unquoted, unquoted_rest}
use Rattle.hy_dump.specs.Writable.{IsName}
use Rattle.hy_dump.proofs.Tokens.{IsAlone, alone, first_is, which, word_alone}
use Rattle.hy_dump.proofs.Utf8.{parts_utf8, plain}
use Rattle.hy_dump.proofs.Writing.{IsParsedSo}

-- what a token found at an offset spans
placed_token : (t : Token) (start : ℕ) (rest : List ℕ) (found : Option (Token × ℕ)) (span : Span) → first_token rest ≡ found → placed start found ≡ Ok (t, span)
    → (span.start ≡ start) × (first_token rest ≡ Some (t, span.end - span.start))
placed_token t start rest None span is e = absurd cc
placed_token t start rest (Some found) span is e =
    let here : Token × Span = (found.0, record { start = start; end = start + found.1 }) in
    let there : Token × Span = (t, span) in
    let same : here ≡ there = cc in
    let name : found.0 ≡ t = ap (λ (p : Token × Span). p.0) same in
    let at : span.start ≡ start = sym (ap (λ (p : Token × Span). p.1.start) same) in
    let over : span.end ≡ start + found.1 = sym (ap (λ (p : Token × Span). p.1.end) same) in
    let long : found.1 ≡ span.end - span.start = omega (arith, at, over) in
    (at, is ∙ (ap (λ (t : Token). let both : Token × ℕ = (t, found.1) in Some both) name ∙ ap (λ (n : ℕ). let both : Token × ℕ = (t, n) in Some both) long))

-- a token at an offset stands first where its span begins
begins_there : (t : Token) (bytes : List ℕ) (at : ℕ) (span : Span) → token_at bytes at ≡ Ok (t, span) → first_token (drop span.start bytes) ≡ Some (t, span.end - span.start)
unfolding lexed
begins_there t bytes at span e =
    let rest : List ℕ = drop at bytes in
    let space : ℕ = blank_len rest in
    let found = placed_token t (at + space) (drop space rest) (first_token (drop space rest)) span refl e in
    let behind : drop space rest ≡ drop span.start bytes = drop-drop space at bytes ∙ ap (λ (n : ℕ). drop n bytes) (sym found.0) in
    ap first_token (sym behind) ∙ found.1

-- ---- a token that is a name

-- a front of bytes that pass is such a front alone
prefix_alone : (p : ℕ → Bool) (bytes : List ℕ) → prefix_len p (take (prefix_len p bytes) bytes) ≡ prefix_len p bytes
prefix_alone p [] = refl
prefix_alone p (b ∷ bytes) = by_first (p b) refl (prefix_alone p bytes)
  where
    by_first : (passes : Bool) → p b ≡ passes → prefix_len p (take (prefix_len p bytes) bytes) ≡ prefix_len p bytes
        → prefix_len p (take (cond passes (1 + prefix_len p bytes) 0) (b ∷ bytes)) ≡ cond passes (1 + prefix_len p bytes) 0
    by_first true is more =
        let long : 1 + prefix_len p bytes ≡ suc (prefix_len p bytes) = omega arith in
        let one : prefix_len p (b ∷ take (prefix_len p bytes) bytes) ≡ 1 + prefix_len p (take (prefix_len p bytes) bytes) =
        ap (λ (so : Bool). cond so (1 + prefix_len p (take (prefix_len p bytes) bytes)) 0) is in
        ap (λ (n : ℕ). prefix_len p (take n (b ∷ bytes))) long ∙ (one ∙ ap (λ (n : ℕ). 1 + n) more)
    by_first false is more = refl

begins_continues : (b : ℕ) → begins_word b ≡ true → continues_word b ≡ true
begins_continues b begins = grind arith

-- where nothing is left the end stands first
ends_first : (t : Token) (n : ℕ) → first_token [] ≡ Some (t, n) → token.End ≡ t
unfolding first_token
ends_first t n is = (which token.End t 0 n is).0

named_first : (bytes : List ℕ) (n : ℕ) → first_token bytes ≡ Some (token.Name, n) → IsName (take n bytes)
named_first [] n is = absurd (let no : token.End ≡ token.Name = ends_first token.Name n is in cc)
named_first (b ∷ bytes) n is =
    let found : IsAlone b bytes n = alone b bytes n is in
    let m : ℕ = word_len bytes in
    let long : word_len (b ∷ bytes) ≡ suc m =
    ap (λ (so : Bool). cond so (1 + m) 0) (begins_continues b found.begins) ∙ (let one : 1 + m ≡ suc m = omega arith in one) in
    let text : List ℕ = b ∷ take m bytes in
    let taken : take (word_len (b ∷ bytes)) (b ∷ bytes) ≡ text = ap (λ (n : ℕ). take n (b ∷ bytes)) long in
    let rest : word_len (take m bytes) ≡ m = prefix_alone continues_word bytes in
    let all : word_len text ≡ suc m =
    ap (λ (so : Bool). cond so (1 + word_len (take m bytes)) 0) (begins_continues b found.begins) ∙ (let one : 1 + word_len (take m bytes) ≡ suc m = omega (arith, rest) in one) in
    let length_is : length text ≡ suc m = ap suc (length-prefix_len continues_word bytes) in
    let short : nat_le (length text) 32 ≡ true = ap (λ (n : ℕ). nat_le n 32) (length_is ∙ sym long) ∙ found.short in
    let same : take n (b ∷ bytes) ≡ text = ap (λ (n : ℕ). take n (b ∷ bytes)) (sym found.long ∙ long) in
    subst IsName (sym same)
    (word_alone token.Name text (record { begins = found.begins; all = all ∙ sym length_is; short = short }) (ap word_token (sym taken) ∙ found.name))

-- ---- a token that is a text

no_word : (found : Option Keyword) → option_map_or token.Reserved found token.Name ≡ token.Text → ⊥
no_word None e = absurd cc
no_word (Some keyword) e = absurd cc

no_sign : (sign : Option Sign) (n : ℕ) → option_map {U = Token × ℕ} (λ (sign : Sign). (token.Sign sign, length (sign_spelling sign))) sign ≡ Some (token.Text, n) → ⊥
no_sign None n e = absurd cc
no_sign (Some sign) n e = let same = (which (token.Sign sign) token.Text (length (sign_spelling sign)) n e).0 in absurd cc

-- a text of so many bytes stands first
record IsQuoted (b : ℕ) (bytes : List ℕ) (n : ℕ) : Type 0 where
  quote : b ≡ 39
  rest : ℕ
  closed : text_rest_len bytes ≡ Some rest
  long : n ≡ suc rest

quoted : (b : ℕ) (bytes : List ℕ) (n : ℕ) → first_token (b ∷ bytes) ≡ Some (token.Text, n) → IsQuoted b bytes n
quoted b bytes n e = by_kind (begins_word b) (is_ascii_digit b) (b == 39) refl (sym (first_is b bytes) ∙ e)
  where
    by_length : (short : Bool)
        → cond {A = Option (Token × ℕ)} short (Some (word_token (take (word_len (b ∷ bytes)) (b ∷ bytes)), word_len (b ∷ bytes))) None ≡ Some (token.Text, n) → ⊥
    by_length false e = absurd cc
    by_length true e =
        no_word (keyword_of (take (word_len (b ∷ bytes)) (b ∷ bytes)))
        (which (word_token (take (word_len (b ∷ bytes)) (b ∷ bytes))) token.Text (word_len (b ∷ bytes)) n e).0

    by_rest : (len : Option ℕ) → b ≡ 39 → text_rest_len bytes ≡ len → option_map {U = Token × ℕ} (λ (len : ℕ). (token.Text, 1 + len)) len ≡ Some (token.Text, n)
        → IsQuoted b bytes n
    by_rest None quote is e = absurd cc
    by_rest (Some len) quote is e =
        let many : 1 + len ≡ n = (which token.Text token.Text (1 + len) n e).1 in
        record { quote = quote; rest = len; closed = is; long = omega (arith, many) }

    by_kind : (word digit quote : Bool) → (b == 39) ≡ quote
        → cond {A = Option (Token × ℕ)} word (first_word (b ∷ bytes)) (cond digit (Some (token.Integer, digits_len (b ∷ bytes))) (cond quote (first_text (b ∷ bytes)) (first_sign (b ∷ bytes))))
        ≡ Some (token.Text, n) → IsQuoted b bytes n
    by_kind true digit quote is e = absurd (by_length (nat_le (word_len (b ∷ bytes)) 32) e)
    by_kind false true quote is e = let same = (which token.Integer token.Text (digits_len (b ∷ bytes)) n e).0 in absurd cc
    by_kind false false true is e = by_rest (text_rest_len bytes) (eqb-true b 39 is) refl e
    by_kind false false false is e = absurd (no_sign (sign_of (b ∷ bytes)) n e)

-- the quote that closes a text is its last byte
record Closes (bytes : List ℕ) (n : ℕ) : Type 0 where
  last : ℕ
  long : n ≡ suc last
  within : last < length bytes
  quote : get_or bytes last 0 ≡ 39

mapped : (k : ℕ) (found : Option ℕ) (n : ℕ) → option_map (λ n. k + n) found ≡ Some n → (m : ℕ) × (found ≡ Some m) × (k + m ≡ n)
mapped k None n e = absurd cc
mapped k (Some m) n e = (m, refl, let same : k + m ≡ n = cc in same)

closes : (bytes : List ℕ) (n : ℕ) → text_rest_len bytes ≡ Some n → Closes bytes n
closes [] n e = absurd cc
closes (b ∷ []) n e = by_quote (b == 39) refl e
  where
    by_quote : (quote : Bool) → (b == 39) ≡ quote → cond {A = Option ℕ} quote (Some 1) None ≡ Some n → Closes (b ∷ []) n
    by_quote true is e = let one : 1 ≡ n = cc in record { last = 0; long = omega (arith, one); within = omega arith; quote = eqb-true b 39 is }
    by_quote false is e = absurd cc
closes (b ∷ c ∷ bytes) n e = by_quote (b == 39) (c == 39) (nat_lt b 32) refl e (closes bytes) (closes (c ∷ bytes))
  where
    by_quote : (quote double low : Bool) → (b == 39) ≡ quote
        → cond quote (cond double (option_map (λ n. 2 + n) (text_rest_len bytes)) (Some 1)) (cond low None (option_map (λ n. 1 + n) (text_rest_len (c ∷ bytes)))) ≡ Some n
        → ((n : ℕ) → text_rest_len bytes ≡ Some n → Closes bytes n) → ((n : ℕ) → text_rest_len (c ∷ bytes) ≡ Some n → Closes (c ∷ bytes) n)
        → Closes (b ∷ c ∷ bytes) n
    by_quote true true low is e anew more =
        let found = mapped 2 (text_rest_len bytes) n e in
        let rest = anew found.0 found.1 in
        let long : found.0 ≡ suc rest.last = rest.long in
        let many : 2 + found.0 ≡ n = found.2 in
        let within : rest.last < length bytes = rest.within in
        record { last = suc (suc rest.last); long = omega (arith, long, many); within = omega (arith, within); quote = rest.quote }
    by_quote true false low is e anew more =
        let one : 1 ≡ n = cc in record { last = 0; long = omega (arith, one); within = omega arith; quote = eqb-true b 39 is }
    by_quote false double true is e anew more = absurd cc
    by_quote false double false is e anew more =
        let found = mapped 1 (text_rest_len (c ∷ bytes)) n e in
        let rest = more found.0 found.1 in
        let long : found.0 ≡ suc rest.last = rest.long in
        let many : 1 + found.0 ≡ n = found.2 in
        let within : rest.last < suc (length bytes) = rest.within in
        record { last = suc rest.last; long = omega (arith, long, many); within = omega (arith, within); quote = rest.quote }

quote_low : (b : ℕ) → b ≡ 39 → b < 128
quote_low b is = omega (arith, is)

-- without its quotes a text is still UTF-8, behind some bytes
unquoted_utf8 : (front text : List ℕ) → IsUtf8 (front ++ text) → IsUtf8 (front ++ unquoted_rest text)
unquoted_utf8 front [] utf8 = utf8
unquoted_utf8 front (b ∷ []) utf8 = by_quote (b == 39) refl
  where
    by_quote : (quote : Bool) → (b == 39) ≡ quote → IsUtf8 (front ++ cond quote [] (b ∷ []))
    by_quote true is = subst IsUtf8 (sym (append-nil front)) (parts_utf8 front [] b (quote_low b (eqb-true b 39 is)) utf8).0
    by_quote false is = utf8
unquoted_utf8 front (b ∷ c ∷ text) utf8 = by_quote (b == 39) (c == 39) refl refl (unquoted_utf8 [] text) (unquoted_utf8 (front ++ b ∷ []) (c ∷ text))
  where
    by_quote : (quote double : Bool) → (b == 39) ≡ quote → (c == 39) ≡ double → (IsUtf8 text → IsUtf8 (unquoted_rest text))
        → (IsUtf8 ((front ++ b ∷ []) ++ c ∷ text) → IsUtf8 ((front ++ b ∷ []) ++ unquoted_rest (c ∷ text)))
        → IsUtf8 (front ++ cond quote (cond double (39 ∷ unquoted_rest text) []) (b ∷ unquoted_rest (c ∷ text)))
    by_quote true true is again anew more =
        let around = parts_utf8 front (c ∷ text) b (quote_low b (eqb-true b 39 is)) utf8 in
        let behind = parts_utf8 [] text c (quote_low c (eqb-true c 39 again)) around.1 in
        IsUtf8-append front (39 ∷ unquoted_rest text) around.0 (IsUtf8-append (39 ∷ []) (unquoted_rest text) (plain (39 ∷ []) refl) (anew behind.1))
    by_quote true false is again anew more = subst IsUtf8 (sym (append-nil front)) (parts_utf8 front (c ∷ text) b (quote_low b (eqb-true b 39 is)) utf8).0
    by_quote false double is again anew more =
        subst IsUtf8 (append_assoc front (b ∷ []) (unquoted_rest (c ∷ text))) (more (subst IsUtf8 (sym (append_assoc front (b ∷ []) (c ∷ text))) utf8))

text_first : (bytes : List ℕ) (n : ℕ) → IsUtf8 bytes → first_token bytes ≡ Some (token.Text, n) → IsUtf8 (unquoted (take n bytes))
text_first [] n utf8 e = absurd (let no : token.End ≡ token.Text = ends_first token.Text n e in cc)
text_first (b ∷ rest) n utf8 e =
    let is = quoted b rest n e in
    let end = closes rest is.rest is.closed in
    let low : b < 128 = quote_low b is.quote in
    let many : n ≡ suc is.rest = is.long in
    let long : is.rest ≡ suc end.last = end.long in
    let within : end.last < length rest = end.within in
    let last : get_or rest end.last 0 ≡ 39 = end.quote in
    let boundary = IsCharBoundary-after_ascii (b ∷ rest) (suc end.last) utf8 (omega (arith, within)) (quote_low (get_or rest end.last 0) last) in
    let over : suc end.last + 1 ≡ suc (suc end.last) = omega arith in
    let all : IsUtf8 (b ∷ take (suc end.last) rest) =
    subst (λ (n : ℕ). IsUtf8 (take n (b ∷ rest))) over (IsUtf8-take (b ∷ rest) (suc end.last + 1) utf8 boundary) in
    let whole : n ≡ suc (suc end.last) = omega (arith, many, long) in
    subst (λ (n : ℕ). IsUtf8 (unquoted (take n (b ∷ rest)))) (sym whole)
    (unquoted_utf8 [] (take (suc end.last) rest) (parts_utf8 [] (take (suc end.last) rest) b low all).1)

first_byte : (b : ℕ) (bytes rest : List ℕ) (start : ℕ) → drop start bytes ≡ b ∷ rest → (start < length bytes) × (get_or bytes start 0 ≡ b)
first_byte b bytes rest start is =
    let left : length (drop start bytes) ≡ length bytes - start = length-drop start bytes in
    let some : length (drop start bytes) ≡ suc (length rest) = ap (λ (bytes : List ℕ). length bytes) is in
    let same : start + 0 ≡ start = omega arith in (
      omega (arith, left, some),
      ap (λ (n : ℕ). get_or bytes n 0) (sym same) ∙ (sym (get_or-drop start bytes 0 0) ∙ ap (λ (bytes : List ℕ). get_or bytes 0 0) is),
    )

-- the same at an offset
text_from : (bytes : List ℕ) (start n : ℕ) → IsUtf8 bytes → first_token (drop start bytes) ≡ Some (token.Text, n) → IsUtf8 (unquoted (take n (drop start bytes)))
text_from bytes start n utf8 e = by_rest (drop start bytes) refl e
  where
    by_rest : (rest : List ℕ) → drop start bytes ≡ rest → first_token rest ≡ Some (token.Text, n) → IsUtf8 (unquoted (take n rest))
    by_rest [] is e = absurd (let no : token.End ≡ token.Text = ends_first token.Text n e in cc)
    by_rest (b ∷ rest) is e =
        let at = first_byte b bytes rest start is in
        let quote : get_or bytes start 0 ≡ 39 = at.1 ∙ (quoted b rest n e).quote in
        let boundary = IsCharBoundary-before_ascii bytes start at.0 (quote_low (get_or bytes start 0) quote) in
        text_first (b ∷ rest) n (subst IsUtf8 is (IsUtf8-drop bytes start utf8 boundary)) e

-- ---- the marks of a statement

-- a name that a mark spans is a word, and a text is UTF-8 without its quotes
abbrev pub IsSound : List ℕ → Mark → Type 0
IsSound bytes (Any t) = Unit {0}
IsSound bytes (At token.Name span) = IsName (text_of_span bytes span)
IsSound bytes (At token.Text span) = IsUtf8 (unquoted (text_of_span bytes span))
IsSound bytes (At t span) = Unit {0}

-- a piece is a token of the script
abbrev IsToken : List ℕ → Piece → Type 0
IsToken script piece = (at : ℕ) × (token_at script at ≡ Ok (piece.token, piece.span))

none_ended : (bytes : List ℕ) (found : Result (Token × Span) Bad) → AllByRecursion (IsToken bytes) (ended found).pieces
none_ended bytes (Ok found) = tt
none_ended bytes (Err bad) = tt

tokens_within : (most : ℕ) (bytes : List ℕ) (at : ℕ) → AllByRecursion (IsToken bytes) (pieces_within most bytes at).pieces
unfolding pieces_within
tokens_within zero bytes at = none_ended bytes (token_at bytes at)
tokens_within (suc most) bytes at = by_found (token_at bytes at) refl (tokens_within most bytes)
  where
    by_found : (found : Result (Token × Span) Bad) → token_at bytes at ≡ found
        → ((next : ℕ) → AllByRecursion (IsToken bytes) (pieces_within most bytes next).pieces)
        → AllByRecursion (IsToken bytes) (continued found (λ next. pieces_within most bytes next)).pieces
    by_found (Ok (token.Sign Semicolon, span)) e more = ((at, e), tt)
    by_found (Ok (token.End, span)) e more = tt
    by_found (Ok (t, span)) e more = ((at, e), more span.end)
    by_found (Err bad) e more = tt

-- the token of a mark
marked : (bytes : List ℕ) (piece : Piece) (t : Token) (span : Span) (is : IsToken bytes piece) → Marks piece (At t span) → token_at bytes is.0 ≡ Ok (t, span)
marked bytes piece t span is marks = is.1 ∙ ap (λ (piece : Piece). let both : Token × Span = (piece.token, piece.span) in Ok both) marks

mark_sound : (bytes : List ℕ) → IsUtf8 bytes → (piece : Piece) (mark : Mark) → IsToken bytes piece → Marks piece mark → IsSound bytes mark
mark_sound bytes utf8 piece (Any t) is marks = tt
mark_sound bytes utf8 piece (At token.Name span) is marks =
    named_first (drop span.start bytes) (span.end - span.start) (begins_there token.Name bytes is.0 span (marked bytes piece token.Name span is marks))
mark_sound bytes utf8 piece (At token.Text span) is marks =
    text_from bytes span.start (span.end - span.start) utf8 (begins_there token.Text bytes is.0 span (marked bytes piece token.Text span is marks))
mark_sound bytes utf8 piece (At t span) is marks = tt

marks_sound : (bytes : List ℕ) → IsUtf8 bytes → (pieces : List Piece) (marks : List Mark) → AllByRecursion (IsToken bytes) pieces → Match pieces marks
    → AllByRecursion (IsSound bytes) marks
marks_sound bytes utf8 [] [] are match = tt
marks_sound bytes utf8 [] (mark ∷ marks) are match = absurd match
marks_sound bytes utf8 (piece ∷ pieces) [] are match = absurd match
marks_sound bytes utf8 (piece ∷ pieces) (mark ∷ marks) are match =
    (mark_sound bytes utf8 piece mark are.0 match.0, marks_sound bytes utf8 pieces marks are.1 match.1)

-- the names and the texts of a statement that was parsed
pub parsed_sound : IsParsedSo → (bytes : List ℕ) → IsUtf8 bytes → (at end : ℕ) (s : Statement) → parsed bytes at ≡ Ok (s, end) → AllByRecursion (IsSound bytes) (marks s)
parsed_sound parses bytes utf8 at end s is =
    let written : Parses bytes at s end = (parses bytes at s end).0 is in
    marks_sound bytes utf8 (pieces_of bytes at).pieces (marks s) (tokens_within (most_pieces (length bytes) (token_at bytes at)) bytes at) written.written.matches

-- ---- parts of a list

pub front_all : {X : Type 0} (P : X → Type 0) (xs ys : List X) → AllByRecursion P (xs ++ ys) → AllByRecursion P xs
front_all P [] ys all = tt
front_all P (x ∷ xs) ys all = (all.0, front_all P xs ys all.1)

pub back_all : {X : Type 0} (P : X → Type 0) (xs ys : List X) → AllByRecursion P (xs ++ ys) → AllByRecursion P ys
back_all P [] ys all = all
back_all P (x ∷ xs) ys all = back_all P xs ys all.1

pub all_more : {X : Type 0} (P : X → Type 0) (xs : List X) (x : X) → AllByRecursion P xs → P x → AllByRecursion P (xs ++ x ∷ [])
all_more P [] x all is = (is, tt)
all_more P (y ∷ xs) x all is = (all.0, all_more P xs x all.1 is)
