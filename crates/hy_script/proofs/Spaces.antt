-- What is read at an offset is read where its first token stands, behind space and comments.
use Rattle.std.specs.Prelude.{nat_eq, codes}
use Rattle.std.specs.List.{starts_with}
use Rattle.std.proofs.Common.{◌≡◌, ℕ, zero, suc, ◌+◌, Bool, true, false, cond, List, [], ◌∷◌, length, Option, None, Some, Result, Ok, drop, refl, sym, ap, ◌∙◌, arith, add-zero}
use Rattle.std.proofs.lemmas.List.{drop-drop}
use Rattle.hy_parse.specs.Parsing.{parsed, parsed_pieces}
use Rattle.hy_parse.specs.Pieces.{ended, continued, pieces_within, most_pieces}
use Rattle.hy_token.specs.declared.Bad.{Bad}
use Rattle.hy_token.specs.declared.Span.{Span}
use Rattle.hy_token.specs.declared.Token.{Token}
use Rattle.hy_token.specs.Lengths.{is_space, is_within_line, blank_from, blank_len}
use Rattle.hy_token.specs.Token.{token_at, lexed, placed, first_token}

-- one byte of space more
one_more : (n : ℕ) (b : ℕ) (bs : List ℕ) → blank_from false (drop n bs) ≡ 0 → blank_from false (drop (1 + n) (b ∷ bs)) ≡ 0
one_more n b bs h = let e : 1 + n ≡ suc n = omega arith in ap (λ (k : ℕ). blank_from false (drop k (b ∷ bs))) e ∙ h

-- no space stands behind space
no_more_space : (comment : Bool) (bytes : List ℕ) → blank_from false (drop (blank_from comment bytes) bytes) ≡ 0
no_more_space true [] = refl
no_more_space false [] = refl
no_more_space true (b ∷ bs) = one_more (blank_from (is_within_line b) bs) b bs (no_more_space (is_within_line b) bs)
no_more_space false (b ∷ bs) = by_first (is_space b) (starts_with nat_eq (b ∷ bs) (codes "--")) refl refl (no_more_space false bs) (no_more_space true bs)
  where
    by_first : (space minus : Bool) → is_space b ≡ space → starts_with nat_eq (b ∷ bs) (codes "--") ≡ minus
        → blank_from false (drop (blank_from false bs) bs) ≡ 0 → blank_from false (drop (blank_from true bs) bs) ≡ 0
        → blank_from false (drop (cond space (1 + blank_from false bs) (cond minus (1 + blank_from true bs) 0)) (b ∷ bs)) ≡ 0
    by_first true minus e f spaces comments = one_more (blank_from false bs) b bs spaces
    by_first false true e f spaces comments = one_more (blank_from true bs) b bs comments
    by_first false false e f spaces comments =
        ap (λ (space : Bool). cond space (1 + blank_from false bs) (cond (starts_with nat_eq (b ∷ bs) (codes "--")) (1 + blank_from true bs) 0)) e
        ∙ ap (λ (minus : Bool). cond minus (1 + blank_from true bs) 0) f

-- how many bytes of space stand at an offset
abbrev space_at : List ℕ → ℕ → ℕ
space_at bytes at = blank_len (drop at bytes)

-- a token stands where it was placed
start_is : (start : ℕ) (found : Option (Token × ℕ)) (t : Token) (span : Span) → placed start found ≡ Ok (t, span) → span.start ≡ start
start_is start None t span e = absurd cc
start_is start (Some found) t span e =
    let here : Token × Span = (found.0, record { start = start; end = start + found.1 }) in
    let there : Token × Span = (t, span) in
    let same : here ≡ there = cc in
    sym (ap (λ (p : Token × Span). p.1.start) same)

-- a token stands behind the space
token_start : (bytes : List ℕ) (at : ℕ) (t : Token) (span : Span) → token_at bytes at ≡ Ok (t, span) → span.start ≡ at + space_at bytes at
unfolding lexed
token_start bytes at t span e = start_is (at + space_at bytes at) (first_token (drop (space_at bytes at) (drop at bytes))) t span e

-- behind the space the same token is found
behind_space : (bytes : List ℕ) (at : ℕ) → token_at bytes (at + space_at bytes at) ≡ token_at bytes at
unfolding lexed blank_len
behind_space bytes at =
    let rest = drop at bytes in
    let n = blank_len rest in
    ap (lexed (at + n)) (sym (drop-drop n at bytes))
    ∙ ap (λ (k : ℕ). placed (at + n + k) (first_token (drop k (drop n rest)))) (no_more_space false rest)
    ∙ ap (λ (k : ℕ). placed k (first_token (drop n rest))) (add-zero (at + n))

-- a token that is found from an offset on is found where it stands
pub found_again : (bytes : List ℕ) (at : ℕ) (t : Token) (span : Span) → token_at bytes at ≡ Ok (t, span) → token_at bytes span.start ≡ token_at bytes at
found_again bytes at t span e = ap (token_at bytes) (token_start bytes at t span e) ∙ behind_space bytes at

-- from two offsets with the same first token the pieces are the same
pieces_again : (most : ℕ) (bytes : List ℕ) (one other : ℕ) → token_at bytes one ≡ token_at bytes other → pieces_within most bytes one ≡ pieces_within most bytes other
unfolding pieces_within
pieces_again zero bytes one other e = ap ended e
pieces_again (suc most) bytes one other e = ap (λ (r : Result (Token × Span) Bad). continued r (λ next. pieces_within most bytes next)) e

-- from two offsets with the same first token the same is parsed
pub parsed_again : (bytes : List ℕ) (one other : ℕ) → token_at bytes one ≡ token_at bytes other → parsed bytes one ≡ parsed bytes other
unfolding parsed
parsed_again bytes one other e =
    ap parsed_pieces (pieces_again (most_pieces (length bytes) (token_at bytes one)) bytes one other e ∙ ap (λ (r : Result (Token × Span) Bad). pieces_within (most_pieces (length bytes) r) bytes other) e)
