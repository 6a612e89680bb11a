-- The pieces of a statement, gathered one by one.
use Rattle.std.proofs.Common.{◌≡◌, ℕ, zero, suc, ◌-◌, ◌+◌, ◌<◌, false, List, [], ◌∷◌, ◌++◌, Result, Ok, Err, refl, sym, ap, ◌∙◌, append_assoc, arith}
use Rattle.std.proofs.lemmas.List.{append-nil}
use Rattle.hy_token.specs.Token.{token_at}
use Rattle.hy_token.specs.declared.Bad.{Bad}
use Rattle.hy_token.specs.declared.Sign.TheVariants.{Semicolon}
use Rattle.hy_token.specs.declared.Span.{Span}
use Rattle.hy_token.specs.declared.Token.{Token}
use Rattle.hy_token.specs.declared.Token.TheVariants.{Sign, End}
use Rattle.hy_parse.specs.declared.Piece.{Piece}
use Rattle.hy_parse.specs.declared.Ending.TheVariants.{Bad as BadEnding}
use Rattle.std.specs.Prelude.{length}
use Rattle.hy_parse.specs.Pieces.{Pieces, piece_of, ended, preceded, continued, pieces_within, most_pieces, pieces_of}
use Rattle.hy_parse.specs.Reading.{same}

-- pieces behind others
abbrev pub behind : List Piece → Pieces → Pieces
behind front others = record { pieces = front ++ others.pieces; ending = others.ending }

-- the pieces from a token on that was found, at most this many
abbrev pub gathered : ℕ → List ℕ → Result (Token × Span) Bad → Pieces
gathered zero bytes found = ended found
gathered (suc most) bytes found = continued found (λ next. pieces_within most bytes next)

gathered_at : (most : ℕ) (bytes : List ℕ) (at : ℕ) → gathered most bytes (token_at bytes at) ≡ pieces_within most bytes at
unfolding pieces_within
gathered_at zero bytes at = refl
gathered_at (suc most) bytes at = refl

-- no piece is gathered from what is no token
gathered_bad : (most : ℕ) (bytes : List ℕ) (bad : Bad) → gathered most bytes (Err bad) ≡ ended (Err bad)
gathered_bad zero bytes bad = refl
gathered_bad (suc most) bytes bad = refl

-- ---- one step

is_within : (token : Token) (span : Span) (others : ℕ → Pieces) → same End token ≡ false → same (Sign Semicolon) token ≡ false → continued (Ok (token, span)) others ≡ preceded (piece_of token span) (others span.end)
is_within (Sign Semicolon) span others no_end no_last = absurd cc
is_within End span others no_end no_last = absurd cc
is_within _ span others no_end no_last = refl

-- ---- a turn of the loop

pub at_start : (bytes : List ℕ) (at most : ℕ) (found : Result (Token × Span) Bad) (front : List Piece) → found ≡ token_at bytes at → most ≡ most_pieces (length bytes) found → front ≡ []
    → behind front (gathered (most - 0) bytes found) ≡ pieces_of bytes at
at_start bytes at most found front is limit none =
    let same : most - 0 ≡ most = omega arith in
    let most_is : most - 0 ≡ most_pieces (length bytes) (token_at bytes at) = same ∙ limit ∙ ap (most_pieces (length bytes)) is in
    rw (none, most_is, is) (gathered_at (most_pieces (length bytes) (token_at bytes at)) bytes at)

module _ (bytes : List ℕ) (front : List Piece) (total : Pieces) where
  step : (most i : ℕ) (found : Result (Token × Span) Bad) → i < most → behind front (gathered (most - i) bytes found) ≡ total → behind front (continued found (λ next. pieces_within (most - (i + 1)) bytes next)) ≡ total
  step most i found lt so_far = let k : most - i ≡ suc (most - (i + 1)) = omega arith in rw k at so_far

  -- what is known of the whole where no piece follows those in front
  whole : (r : Result (Token × Span) Bad) → behind front (ended r) ≡ total → (front ≡ total.pieces) × ((ended r).ending ≡ total.ending)
  whole (Ok found) is = (sym (append-nil front) ∙ ap (λ (p : Pieces). p.pieces) is, ap (λ (p : Pieces). p.ending) is)
  whole (Err bad) is = (sym (append-nil front) ∙ ap (λ (p : Pieces). p.pieces) is, ap (λ (p : Pieces). p.ending) is)

  pub at_bad : (most : ℕ) (found : Result (Token × Span) Bad) (bad : Bad) → found ≡ Err bad → behind front (gathered most bytes found) ≡ total → (front ≡ total.pieces) × (BadEnding bad.at ≡ total.ending)
  at_bad most found bad is so_far = whole (Err bad) (rw (gathered_bad most bytes bad) at (rw is at so_far))

  pub at_piece : (most i : ℕ) (found next : Result (Token × Span) Bad) (token : Token) (span : Span) (new : List Piece) → i < most → found ≡ Ok (token, span) → new ≡ front ++ piece_of token span ∷ [] → false ≡ same End token → false ≡ same (Sign Semicolon) token
      → next ≡ token_at bytes span.end → behind front (gathered (most - i) bytes found) ≡ total → behind new (gathered (most - (i + 1)) bytes next) ≡ total
  at_piece most i found next token span new lt is pushed no_end no_last is_next so_far =
      let known = rw (is_within token span _ (sym no_end) (sym no_last)) at (rw is at (step most i found lt so_far)) in
      rw (is_next, gathered_at (most - (i + 1)) bytes span.end, pushed, append_assoc) known
