-- A name that stands in a statement which is parsed is a word of the script.
use Rattle.std.specs.Prelude.{nat_le, ◌-◌, ◌==◌}
use Rattle.std.specs.Char.{is_ascii_digit}
use Rattle.std.specs.List.{All, AllByRecursion, prefix_len}
use Rattle.std.specs.Option.{option_map}
use Rattle.std.proofs.Common.{◌≡◌, ℕ, zero, suc, ◌+◌, Bool, true, false, cond, List, [], ◌∷◌, length, take, drop, Option, None, Some, Result, Ok, Err, refl, sym, ap, subst, ◌∙◌, arith}
use Rattle.std.proofs.lemmas.Bool.{leb-true}
use Rattle.std.proofs.lemmas.List.{drop-drop}
use Rattle.std.proofs.lemmas.List.Elements.{All-nil, All-cons}
use Rattle.std.proofs.lemmas.List.Folds.{length-prefix_len}
use Rattle.hy_token.specs.declared.Bad.{Bad}
use Rattle.hy_token.specs.declared.Sign.{Sign}
use Rattle.hy_token.specs.declared.Sign.TheVariants.{Semicolon}
use Rattle.hy_token.specs.declared.Span.{Span}
use Rattle.hy_token.specs.declared.Token.{Token}
use Rattle.hy_token.specs.declared.Token.TheVariants as token
use Rattle.hy_token.specs.Lengths.{blank_len, begins_word, continues_word, word_len, digits_len, text_rest_len}
use Rattle.hy_token.specs.Sign.{sign_of, sign_spelling}
use Rattle.hy_token.specs.Token.{word_token, first_word, first_text, first_sign, first_token, placed, lexed, token_at}
use Rattle.hy_ast.specs.declared.ColumnDef.{ColumnDef}
use Rattle.hy_ast.specs.Trees as tree
use Rattle.hy_parse.specs.declared.Piece.{Piece}
use Rattle.hy_parse.specs.Grammar.{Match, marks}
use Rattle.hy_bind.specs.Literals.{text_of_span}
use Rattle.hy_setting.specs.Texts.{IsToken}
use Rattle.hy_top.specs.Naming.{IsWord}

-- ---- a token that is a name is a word

run_passes : (p : ℕ → Bool) (bytes : List ℕ) → All (λ byte. p byte ≡ true) (take (prefix_len p bytes) bytes)
run_passes p [] = All-nil (λ byte. p byte ≡ true)
run_passes p (b ∷ bytes) = by_first (p b) refl (run_passes p bytes)
  where
    by_first : (passes : Bool) → p b ≡ passes → All (λ byte. p byte ≡ true) (take (prefix_len p bytes) bytes)
        → All (λ byte. p byte ≡ true) (take (cond passes (1 + prefix_len p bytes) 0) (b ∷ bytes))
    by_first true e rest =
        let more : suc (prefix_len p bytes) ≡ 1 + prefix_len p bytes = omega arith in
        subst (λ (n : ℕ). All (λ byte. p byte ≡ true) (take n (b ∷ bytes))) more
        (All-cons (λ byte. p byte ≡ true) b (take (prefix_len p bytes) bytes) e rest)
    by_first false e rest = All-nil (λ byte. p byte ≡ true)

abbrev found : Token → ℕ → Option (Token × ℕ)
found t n = let both : Token × ℕ = (t, n) in Some both

-- which token was found, and of how many bytes
which : (t : Token) (k n : ℕ) → found t k ≡ found token.Name n → (t ≡ token.Name) × (k ≡ n)
which t k n e =
    let here : Token × ℕ = (t, k) in
    let there : Token × ℕ = (token.Name, n) in
    let same : here ≡ there = cc in
    (ap (λ (p : Token × ℕ). p.0) same, ap (λ (p : Token × ℕ). p.1) same)

word_is : (bytes : List ℕ) (n : ℕ) (short : Bool) → nat_le (word_len bytes) 32 ≡ short
    → cond {A = Option (Token × ℕ)} short (Some (word_token (take (word_len bytes) bytes), word_len bytes)) None ≡ Some (token.Name, n) → IsWord (take n bytes)
word_is bytes n true short e =
    let same = (which (word_token (take (word_len bytes) bytes)) (word_len bytes) n e).1 in
    let few = leb-true (word_len bytes) 32 short in
    let many = length-prefix_len continues_word bytes in
    subst (λ (n : ℕ). IsWord (take n bytes)) same (record { short = omega (arith, few, many); letters = run_passes continues_word bytes })
word_is bytes n false short e = absurd cc

no_text : (len : Option ℕ) (n : ℕ) → option_map {U = Token × ℕ} (λ (len : ℕ). (token.Text, 1 + len)) len ≡ Some (token.Name, n) → ⊥
no_text None n e = absurd cc
no_text (Some len) n e = let same = (which token.Text (1 + len) n e).0 in absurd cc

no_sign : (sign : Option Sign) (n : ℕ) → option_map {U = Token × ℕ} (λ (sign : Sign). (token.Sign sign, length (sign_spelling sign))) sign ≡ Some (token.Name, n) → ⊥
no_sign None n e = absurd cc
no_sign (Some sign) n e = let same = (which (token.Sign sign) (length (sign_spelling sign)) n e).0 in absurd cc

first_is_word : (bytes : List ℕ) (n : ℕ) → first_token bytes ≡ Some (token.Name, n) → IsWord (take n bytes)
unfolding first_token
first_is_word [] n e = let same = (which token.End 0 n e).0 in absurd cc
first_is_word (b ∷ bytes) n e = by_kind (begins_word b) (is_ascii_digit b) (b == 39) e
  where
    by_kind : (word digit quote : Bool)
        → cond {A = Option (Token × ℕ)} word (first_word (b ∷ bytes)) (cond digit (Some (token.Integer, digits_len (b ∷ bytes))) (cond quote (first_text (b ∷ bytes)) (first_sign (b ∷ bytes))))
        ≡ Some (token.Name, n) → IsWord (take n (b ∷ bytes))
    by_kind true digit quote e = word_is (b ∷ bytes) n (nat_le (word_len (b ∷ bytes)) 32) refl e
    by_kind false true quote e = let same = (which token.Integer (digits_len (b ∷ bytes)) n e).0 in absurd cc
    by_kind false false true e = absurd (no_text (text_rest_len (drop 1 (b ∷ bytes))) n e)
    by_kind false false false e = absurd (no_sign (sign_of (b ∷ bytes)) n e)

placed_is_word : (start : ℕ) (rest : List ℕ) (found : Option (Token × ℕ)) (span : Span) → first_token rest ≡ found → placed start found ≡ Ok (token.Name, span)
    → (span.start ≡ start) × IsWord (take (span.end - span.start) rest)
placed_is_word start rest None span is e = absurd cc
placed_is_word start rest (Some found) span is e =
    let here : Token × Span = (found.0, record { start = start; end = start + found.1 }) in
    let there : Token × Span = (token.Name, span) in
    let same : here ≡ there = cc in
    let name : found.0 ≡ token.Name = ap (λ (p : Token × Span). p.0) same in
    let at : span.start ≡ start = sym (ap (λ (p : Token × Span). p.1.start) same) in
    let over : span.end ≡ start + found.1 = sym (ap (λ (p : Token × Span). p.1.end) same) in
    let long : found.1 ≡ span.end - span.start = omega (arith, at, over) in
    let first : first_token rest ≡ Some (token.Name, found.1) = is ∙ ap (λ (t : Token). Some (t, found.1)) name in
    (at, subst (λ (n : ℕ). IsWord (take n rest)) long (first_is_word rest found.1 first))

-- a name is a word
token_is_word : (bytes : List ℕ) (at : ℕ) (span : Span) → token_at bytes at ≡ Ok (token.Name, span) → IsWord (text_of_span bytes span)
unfolding lexed
token_is_word bytes at span e =
    let rest = drop at bytes in
    let space = blank_len rest in
    let found = placed_is_word (at + space) (drop space rest) (first_token (drop space rest)) span refl e in
    let behind : drop space rest ≡ drop span.start bytes = drop-drop space at bytes ∙ ap (λ (n : ℕ). drop n bytes) (sym found.0) in
    subst (λ (rest : List ℕ). IsWord (take (span.end - span.start) rest)) behind found.1

-- ---- the names of tables and sessions

piece_is_word : (bytes : List ℕ) (piece : Piece) (span : Span) → piece ≡ record { token = token.Name; span = span } → IsToken bytes piece
    → IsWord (text_of_span bytes span)
piece_is_word bytes piece span is found =
    token_is_word bytes found.0 span (found.1 ∙ ap (λ (p : Piece). Ok (p.token, p.span)) is)

-- that of a table that is created is a word
pub table_is_word : (bytes : List ℕ) (pieces : List Piece) (table : Span) (columns : List ColumnDef) → Match pieces (marks (tree.Create table columns))
    → AllByRecursion (IsToken bytes) pieces → IsWord (text_of_span bytes table)
table_is_word bytes [] table columns matches all = absurd matches
table_is_word bytes (one ∷ []) table columns matches all = absurd matches.1
table_is_word bytes (one ∷ two ∷ []) table columns matches all = absurd matches.1.1
table_is_word bytes (one ∷ two ∷ three ∷ rest) table columns matches all = piece_is_word bytes three table matches.1.1.0 all.1.1.0

-- and that of a session
pub session_is_word : (bytes : List ℕ) (pieces : List Piece) (name : Span) → Match pieces (marks (tree.Session name))
    → AllByRecursion (IsToken bytes) pieces → IsWord (text_of_span bytes name)
session_is_word bytes [] name matches all = absurd matches
session_is_word bytes (one ∷ []) name matches all = absurd matches.1
session_is_word bytes (one ∷ two ∷ rest) name matches all = piece_is_word bytes two name matches.1.0 all.1.0
