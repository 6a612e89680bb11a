-- How many bytes a token takes, and where it stands.
use Rattle.std.proofs.Common.{◌≡◌, ℕ, ◌+◌, ◌<◌, ◌≤◌, Bool, true, false, cond, Option, Some, None, Result, Ok, Err, List, [], ◌∷◌, length, take, drop, refl, ap, ◌∙◌, subst, arith, length-drop, length-take, nat_eq, nat_lt}
use Rattle.std.specs.Prelude.{find, codes, not, ◌==◌, MatchOption, IfSome, IfOk, IfErr, MatchResult, nat_le}
use Rattle.std.specs.Option.{option_map, option_map_or}
use Rattle.std.specs.Char.{is_ascii_digit}
use Rattle.std.specs.List.{prefix_len, starts_with}
use Rattle.std.proofs.lemmas.Slice.Eq.{bytes_eq-Decides}
use Rattle.std.proofs.lemmas.List.Sums.{prefix_len-le-length}
use Rattle.hy_token.specs.Keyword.{keyword_of}
use Rattle.hy_token.specs.Lengths.{is_space, blank_from, blank_len, begins_word, continues_word, word_len, text_rest_len}
use Rattle.hy_token.specs.Sign.{sign_of, signs, sign_spelling}
use Rattle.hy_token.specs.Token.{first_word, first_text, first_sign, first_token, placed, lexed, token_at, MovesOn, LiesWithin, moved_on}
use Rattle.hy_token.specs.declared.Bad.{Bad}
use Rattle.hy_token.specs.declared.Keyword.{Keyword}
use Rattle.hy_token.specs.declared.Sign.{Sign as TheSign}
use Rattle.hy_token.specs.declared.Sign.TheVariants as sign
use Rattle.hy_token.specs.declared.Span.{Span}
use Rattle.hy_token.specs.declared.Token.{Token}
use Rattle.hy_token.specs.declared.Token.TheVariants.{Reserved, Name, Text, Sign, End}

-- a fact of either side of a choice is one of the choice
either : {X : Type 0} (P : X → Type 0) (test : Bool) (x y : X) → (test ≡ true → P x) → (test ≡ false → P y) → P (cond test x y)
either P true x y passed failed = passed refl
either P false x y passed failed = failed refl

blank_from-le-length : (comment : Bool) (bs : List ℕ) → blank_from comment bs ≤ length bs
blank_from-le-length comment [] = omega arith
blank_from-le-length true (b ∷ bs) = let rest = blank_from-le-length (not (b == 10)) bs in omega (arith, rest)
blank_from-le-length false (b ∷ bs) =
    let within : ℕ → Type 0 = λ n. n ≤ length (b ∷ bs) in
    let inside = blank_from-le-length true bs in
    let outside = blank_from-le-length false bs in
    either within (is_space b) _ _ (λ _. omega (arith, outside)) (λ _. either within (starts_with nat_eq (b ∷ bs) (codes "--")) _ _ (λ _. omega (arith, inside)) (λ _. omega arith))

pub blank_len-le-length : (bs : List ℕ) → blank_len bs ≤ length bs
unfolding blank_len
blank_len-le-length bs = blank_from-le-length false bs

-- the bytes of a token: none at the end, and else some, up to those that there are
abbrev pub TakesBytes : List ℕ → Token → ℕ → Type 0
TakesBytes bs End n = (n ≡ 0) × (length bs ≡ 0)
TakesBytes bs _ n = (0 < n) × (n ≤ length bs)

abbrev pub Measured : List ℕ → Option (Token × ℕ) → Type 0
Measured bs found = MatchOption found (0 < length bs) (λ f. TakesBytes bs f.0 f.1)

run_takes : (p : ℕ → Bool) (b : ℕ) (bs : List ℕ) → p b ≡ true → (0 < prefix_len p (b ∷ bs)) × (prefix_len p (b ∷ bs) ≤ length (b ∷ bs))
run_takes p b bs h =
    let some : prefix_len p (b ∷ bs) ≡ 1 + prefix_len p bs = rw h refl in
    (omega (arith, some), prefix_len-le-length p (b ∷ bs))

goes_on : (b : ℕ) → begins_word b ≡ true → continues_word b ≡ true
goes_on b h = grind arith

word_takes : (bs : List ℕ) (n : ℕ) (k : Option Keyword) → (0 < n) × (n ≤ length bs) → TakesBytes bs (option_map_or Reserved k Name) n
word_takes bs n None takes = takes
word_takes bs n (Some k) takes = takes

first_word-Measured : (b : ℕ) (bs : List ℕ) → begins_word b ≡ true → Measured (b ∷ bs) (first_word (b ∷ bs))
first_word-Measured b bs h =
    either (Measured (b ∷ bs)) (nat_le (word_len (b ∷ bs)) 32) _ _
    (λ _. word_takes (b ∷ bs) _ (keyword_of _) (run_takes continues_word b bs (goes_on b h)))
    (λ _. omega arith)

seen_within : (k m whole : ℕ) (o : Option ℕ) → k + m ≤ whole → IfSome o (λ n. n ≤ m) → IfSome (option_map (λ n. k + n) o) (λ n. n ≤ whole)
seen_within k m whole None fits within = tt
seen_within k m whole (Some n) fits within = omega (arith, within)

text_rest_len-le-length : (bs : List ℕ) → IfSome (text_rest_len bs) (λ n. n ≤ length bs)
text_rest_len-le-length [] = tt
text_rest_len-le-length (b ∷ []) = either (λ o. IfSome o (λ n. n ≤ length (b ∷ []))) (b == 39) _ _ (λ _. omega arith) (λ _. tt)
text_rest_len-le-length (b ∷ c ∷ bs) =
    let Within : Option ℕ → Type 0 = λ o. IfSome o (λ n. n ≤ length (b ∷ c ∷ bs)) in
    let after_two = text_rest_len-le-length bs in
    let after_one = text_rest_len-le-length (c ∷ bs) in
    either Within (b == 39) _ _
    (λ _. either Within (c == 39) _ _ (λ _. seen_within 2 (length bs) _ (text_rest_len bs) (omega arith) after_two) (λ _. omega arith))
    (λ _. either Within (nat_lt b 32) _ _ (λ _. tt) (λ _. seen_within 1 (length (c ∷ bs)) _ (text_rest_len (c ∷ bs)) (omega arith) after_one))

text_takes : (b : ℕ) (bs : List ℕ) (o : Option ℕ) → IfSome o (λ n. n ≤ length bs) → Measured (b ∷ bs) (option_map (λ n. (Text, 1 + n)) o)
text_takes b bs None within = omega arith
text_takes b bs (Some n) within = (omega arith, omega (arith, within))

first_text-Measured : (b : ℕ) (bs : List ℕ) → Measured (b ∷ bs) (first_text (b ∷ bs))
first_text-Measured b bs = text_takes b bs (text_rest_len bs) (text_rest_len-le-length bs)

pub find_passes : {X : Type 0} (p : X → Bool) (xs : List X) → IfSome (find p xs) (λ x. p x ≡ true)
find_passes p [] = tt
find_passes p (x ∷ xs) = either (λ o. IfSome o (λ y. p y ≡ true)) (p x) (Some x) (find p xs) (λ h. h) (λ _. find_passes p xs)

front_within : (bs front : List ℕ) → starts_with nat_eq bs front ≡ true → length front ≤ length bs
front_within bs front h =
    let same = ap length ((bytes_eq-Decides front (take (length front) bs)).0 h) in
    omega (arith, same, length-take (length front) bs)

spelling_some : (s : TheSign) → 0 < length (sign_spelling s)
spelling_some sign.LeftParen = omega arith
spelling_some _ = omega arith

sign_takes : (bs : List ℕ) (o : Option TheSign) → 0 < length bs → IfSome o (λ s. starts_with nat_eq bs (sign_spelling s) ≡ true) → Measured bs (option_map (λ s. (Sign s, length (sign_spelling s))) o)
sign_takes bs None some stands = some
sign_takes bs (Some s) some stands = (spelling_some s, front_within bs (sign_spelling s) stands)

first_sign-Measured : (b : ℕ) (bs : List ℕ) → Measured (b ∷ bs) (first_sign (b ∷ bs))
unfolding sign_of
first_sign-Measured b bs = sign_takes (b ∷ bs) (sign_of (b ∷ bs)) (omega arith) (find_passes (λ s. starts_with nat_eq (b ∷ bs) (sign_spelling s)) signs)

pub first_token-Measured : (bs : List ℕ) → Measured bs (first_token bs)
unfolding first_token
first_token-Measured [] = (refl, refl)
first_token-Measured (b ∷ bs) =
    either (Measured (b ∷ bs)) (begins_word b) _ _ (first_word-Measured b bs)
    (λ _. either (Measured (b ∷ bs)) (is_ascii_digit b) _ _ (run_takes is_ascii_digit b bs)
    (λ _. either (Measured (b ∷ bs)) (nat_eq b 39) _ _ (λ _. first_text-Measured b bs) (λ _. first_sign-Measured b bs)))

takes_within : (bs : List ℕ) (token : Token) (n : ℕ) → TakesBytes bs token n → n ≤ length bs
takes_within bs End n takes = omega (arith, takes.0)
takes_within bs (Reserved _) n takes = takes.1
takes_within bs _ n takes = takes.1

-- the token found stands within what is left
pub found_within : (bs : List ℕ) (found : Token × ℕ) → first_token bs ≡ Some found → found.1 ≤ length bs
found_within bs found is = takes_within bs found.0 found.1 (subst (Measured bs) is (first_token-Measured bs))

-- what is known of the answer for the bytes that are left at an offset
abbrev pub Outcome : ℕ → ℕ → Result (Token × Span) Bad → Type 0
Outcome len at r = MatchResult r (λ found. MovesOn len at found.0 found.1) (λ bad. (at ≤ bad.at) × (bad.at < len))

placed_token : (len at start : ℕ) (bs : List ℕ) (token : Token) (n : ℕ) → at ≤ start → start + length bs ≡ len → TakesBytes bs token n → MovesOn len at token (record { start = start; end = start + n })
placed_token len at start bs End n after left takes = (omega arith, omega (arith, takes.1), omega (arith, takes.0, takes.1))
placed_token len at start bs (Reserved _) n after left takes = (after, omega (arith, takes.0), omega (arith, takes.1))
placed_token len at start bs _ n after left takes = (after, omega (arith, takes.0), omega (arith, takes.1))

placed-Outcome : (len at start : ℕ) (bs : List ℕ) (found : Option (Token × ℕ)) → at ≤ start → start + length bs ≡ len → Measured bs found → Outcome len at (placed start found)
placed-Outcome len at start bs None after left takes = (after, omega (arith, takes))
placed-Outcome len at start bs (Some found) after left takes = placed_token len at start bs found.0 found.1 after left takes

-- the next token stands in the script after the offset, and moves on if it is not the end
pub token_at-Outcome : (bytes : List ℕ) (at : ℕ) → at ≤ length bytes → Outcome (length bytes) at (token_at bytes at)
unfolding lexed
token_at-Outcome bytes at in_range =
    let rest = drop at bytes in
    let skipped = blank_len rest in
    let fits = blank_len-le-length rest in
    placed-Outcome (length bytes) at (at + skipped) (drop skipped rest) (first_token (drop skipped rest)) (omega arith)
    (omega (arith, fits, length-drop at bytes, length-drop skipped rest))
    (first_token-Measured (drop skipped rest))

-- so its span lies in the script
pub lies_within : (len at : ℕ) (token : Token) (span : Span) → MovesOn len at token span → LiesWithin len at span
lies_within len at End span moves = record { after = omega (arith, moves.0, moves.1); ordered = omega (arith, moves.1, moves.2); within = omega (arith, moves.2) }
lies_within len at (Reserved _) span moves = record { after = moves.0; ordered = omega (arith, moves.1); within = moves.2 }
lies_within len at _ span moves = record { after = moves.0; ordered = omega (arith, moves.1); within = moves.2 }

placed-moved_on : (k start : ℕ) (found : Option (Token × ℕ)) → placed (k + start) found ≡ moved_on k (placed start found)
placed-moved_on k start None = refl
placed-moved_on k start (Some found) =
    let ends : k + start + found.1 ≡ k + (start + found.1) = omega arith in
    ap (λ n. Ok (found.0, record { start = k + start; end = n })) ends

-- bytes that stand k further on give the same token, k further on
pub lexed-moved_on : (k at : ℕ) (rest : List ℕ) → lexed (k + at) rest ≡ moved_on k (lexed at rest)
unfolding lexed
lexed-moved_on k at rest =
    let starts : k + at + blank_len rest ≡ k + (at + blank_len rest) = omega arith in
    ap (λ n. placed n (first_token (drop (blank_len rest) rest))) starts ∙ placed-moved_on k (at + blank_len rest) (first_token (drop (blank_len rest) rest))

-- what is known of an answer, clause by clause
pub ok_moves_on : (len at : ℕ) (r : Result (Token × Span) Bad) → Outcome len at r → IfOk r (λ found. MovesOn len at found.0 found.1)
ok_moves_on len at (Ok found) known = known
ok_moves_on len at (Err bad) known = tt

pub ok_lies_within : (len at : ℕ) (r : Result (Token × Span) Bad) → Outcome len at r → IfOk r (λ found. LiesWithin len at found.1)
ok_lies_within len at (Ok found) known = lies_within len at found.0 found.1 known
ok_lies_within len at (Err bad) known = tt

pub err_within : (len at : ℕ) (r : Result (Token × Span) Bad) → Outcome len at r → IfErr r (λ bad. (at ≤ bad.at) × (bad.at < len))
err_within len at (Ok found) known = tt
err_within len at (Err bad) known = known
