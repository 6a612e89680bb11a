-- Where the pieces of a statement stand, and what follows them.
use Rattle.std.proofs.Common.{◌≡◌, ℕ, zero, suc, ◌<◌, ◌≤◌, List, [], ◌∷◌, ◌++◌, length, Result, Ok, Err, MatchResult, sym, subst, arith}
use Rattle.std.specs.Prelude.{IfOk}
use Rattle.std.specs.List.{AllByRecursion}
use Rattle.hy_token.specs.Token.{token_at, MovesOn}
use Rattle.hy_token.specs.declared.Bad.{Bad}
use Rattle.hy_token.specs.declared.Sign.TheVariants.{Semicolon}
use Rattle.hy_token.specs.declared.Span.{Span}
use Rattle.hy_token.specs.declared.Token.{Token}
use Rattle.hy_token.specs.declared.Token.TheVariants as token
use Rattle.hy_parse.specs.declared.Piece.{Piece}
use Rattle.hy_parse.specs.Pieces.{Pieces, piece_of, ended, preceded, continued, pieces_within, pieces_of}
use Rattle.hy_parse.specs.Parsing.{offset_of}

-- what is known of the next token from an offset on
abbrev pub Outcome : ℕ → ℕ → Result (Token × Span) Bad → Type 0
Outcome len at r = MatchResult r (λ found. MovesOn len at found.0 found.1) (λ bad. (at ≤ bad.at) × (bad.at < len))

-- the law that tokens move on
abbrev pub TokensMove : Type 0
TokensMove = (bytes : List ℕ) (at : ℕ) → at ≤ length bytes → Outcome (length bytes) at (token_at bytes at)

token_within : (len at : ℕ) (t : Token) (span : Span) → MovesOn len at t span → span.end ≤ len
token_within len at token.End span moves = omega (arith, moves.2)
token_within len at (token.Reserved _) span moves = moves.2
token_within len at _ span moves = moves.2

found_within : (len at : ℕ) (found : Result (Token × Span) Bad) → Outcome len at found → IfOk found (λ f. f.1.end ≤ len)
found_within len at (Ok found) moves = token_within len at found.0 found.1 moves
found_within len at (Err bad) moves = tt

-- the first token from an offset on ends in the script
pub first_within : (bytes : List ℕ) (at : ℕ) (found : Result (Token × Span) Bad) → found ≡ token_at bytes at → at ≤ length bytes → TokensMove → IfOk found (λ f. f.1.end ≤ length bytes)
first_within bytes at found is in_range law = found_within (length bytes) at found (subst (Outcome (length bytes) at) (sym is) (law bytes at in_range))

abbrev pub StandsIn : ℕ → ℕ → Piece → Type 0
StandsIn len at p = (at ≤ p.span.start) × (p.span.start ≤ len)

-- the pieces stand in a script of this length from the offset on, and what follows stands behind them
pub record StandIn (len at : ℕ) (ps : Pieces) : Type 0 where
  pub all : AllByRecursion (StandsIn len at) ps.pieces
  pub after : at ≤ offset_of ps.ending
  pub within : offset_of ps.ending ≤ len
  pub beyond : 0 < length ps.pieces → at < offset_of ps.ending

further : (len at next : ℕ) (ps : List Piece) → at ≤ next → AllByRecursion (StandsIn len next) ps → AllByRecursion (StandsIn len at) ps
further len at next [] le all = tt
further len at next (p ∷ ps) le all = ((omega (arith, all.0.0, le), all.0.1), further len at next ps le all.1)

-- one piece, and others behind it
one_piece : (len at : ℕ) (t : Token) (span : Span) (others : Pieces) → (at ≤ span.start) × (span.start < span.end) × (span.end ≤ len) → StandIn len span.end others → StandIn len at (preceded (piece_of t span) others)
one_piece len at t span others moves stand = record {
  all = ((moves.0, omega (arith, moves.1, moves.2)), further len at span.end others.pieces (omega (arith, moves.0, moves.1)) stand.all);
  after = omega (arith, moves.0, moves.1, stand.after);
  within = stand.within;
  beyond = λ some. omega (arith, moves.0, moves.1, stand.after);
}

no_piece : (len at : ℕ) (r : Result (Token × Span) Bad) → Outcome len at r → at ≤ len → StandIn len at (ended r)
no_piece len at (Ok (token.End, span)) moves le = record { all = tt; after = omega (arith, moves.0, moves.1); within = omega (arith, moves.1); beyond = λ some. absurd (omega (arith, some)) }
no_piece len at (Ok (t, span)) moves le = record { all = tt; after = moves.0; within = omega (arith, moves.1, moves.2); beyond = λ some. absurd (omega (arith, some)) }
no_piece len at (Err bad) known le = record { all = tt; after = known.0; within = omega (arith, known.1); beyond = λ some. absurd (omega (arith, some)) }

step : (len at : ℕ) (r : Result (Token × Span) Bad) (others : ℕ → Pieces) → Outcome len at r → at ≤ len → ((next : ℕ) → next ≤ len → StandIn len next (others next)) → StandIn len at (continued r others)
step len at (Ok (token.Sign Semicolon, span)) others moves le stand = record {
  all = ((moves.0, omega (arith, moves.1, moves.2)), tt);
  after = omega (arith, moves.0, moves.1);
  within = moves.2;
  beyond = λ some. omega (arith, moves.0, moves.1);
}
step len at (Ok (token.End, span)) others moves le stand = no_piece len at (Ok (token.End, span)) moves le
step len at (Ok (t, span)) others moves le stand = one_piece len at t span (others span.end) moves (stand span.end moves.2)
step len at (Err bad) others known le stand = no_piece len at (Err bad) known le

stand_within : TokensMove → (most : ℕ) (bytes : List ℕ) (at : ℕ) → at ≤ length bytes → StandIn (length bytes) at (pieces_within most bytes at)
unfolding pieces_within
stand_within law zero bytes at le = no_piece (length bytes) at (token_at bytes at) (law bytes at le) le
stand_within law (suc most) bytes at le =
    step (length bytes) at (token_at bytes at) (λ next. pieces_within most bytes next) (law bytes at le) le (λ next in_range. stand_within law most bytes next in_range)

pub stand_in : TokensMove → (bytes : List ℕ) (at : ℕ) → at ≤ length bytes → StandIn (length bytes) at (pieces_of bytes at)
stand_in law bytes at le = stand_within law _ bytes at le

-- the first piece behind others
pub stands_behind : (len at : ℕ) (front : List Piece) (p : Piece) (rest : List Piece) → AllByRecursion (StandsIn len at) (front ++ p ∷ rest) → StandsIn len at p
stands_behind len at [] p rest all = all.0
stands_behind len at (q ∷ front) p rest all = stands_behind len at front p rest all.1
