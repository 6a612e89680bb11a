-- The tokens of a statement: those up to and with its `;`, and what follows them.
use Rattle.std.specs.Prelude.{ℕ, zero, suc, List, [], ◌∷◌, Result, Ok, Err, length}
use Rattle.hy_token.specs.Token.{token_at}
use Rattle.hy_token.specs.declared.Bad.{Bad}
use Rattle.hy_token.specs.declared.Keyword.TheVariants.{Schedule}
use Rattle.hy_token.specs.declared.Sign.TheVariants.{Semicolon}
use Rattle.hy_token.specs.declared.Span.{Span}
use Rattle.hy_token.specs.declared.Token.{Token}
use Rattle.hy_token.specs.declared.Token.TheVariants.{Reserved, Sign, End}
use Rattle.hy_parse.specs.declared.Piece.{Piece}
use Rattle.hy_parse.specs.declared.Ending.{Ending}
use Rattle.hy_parse.specs.declared.Ending.TheVariants.{Closed, Cut, Bad as BadEnding}
use Rattle.hy_limits.specs.declared.TheConstants.{MOST_TOKENS}

pub record Pieces : Type 0 where
  pub pieces : List Piece
  pub ending : Ending

abbrev pub piece_of : Token → Span → Piece
piece_of token span = record { token = token; span = span }

-- no piece, and what stands there
abbrev pub ended : Result (Token × Span) Bad → Pieces
ended (Ok found) = record { pieces = []; ending = Cut found.1.start }
ended (Err bad) = record { pieces = []; ending = BadEnding bad.at }

abbrev pub preceded : Piece → Pieces → Pieces
preceded piece others = record { pieces = piece ∷ others.pieces; ending = others.ending }

-- the piece that a token is, and those from behind it on, unless it is the last
abbrev pub continued : Result (Token × Span) Bad → (ℕ → Pieces) → Pieces
continued (Ok (Sign Semicolon, span)) others = record { pieces = piece_of (Sign Semicolon) span ∷ []; ending = Closed span.end }
continued (Ok (End, span)) others = ended (Ok (End, span))
continued (Ok (token, span)) others = preceded (piece_of token span) (others span.end)
continued (Err bad) others = ended (Err bad)

-- the pieces from an offset on, at most this many
unfoldable pub pieces_within : ℕ → List ℕ → ℕ → Pieces
pieces_within zero bytes at = ended (token_at bytes at)
pieces_within (suc most) bytes at = continued (token_at bytes at) (λ next. pieces_within most bytes next)

-- A statement has at most 4,096 tokens. Only a schedule has no limit: no script has more tokens than bytes.
unfoldable pub most_pieces : ℕ → Result (Token × Span) Bad → ℕ
most_pieces len (Ok (Reserved Schedule, span)) = len
most_pieces len _ = MOST_TOKENS

-- the pieces of the statement that begins at the first token from an offset on
abbrev pub pieces_of : List ℕ → ℕ → Pieces
pieces_of bytes at = pieces_within (most_pieces (length bytes) (token_at bytes at)) bytes at
