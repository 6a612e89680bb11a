-- The pieces of a statement are tokens of the script that it stands in.
use Rattle.std.specs.List.{AllByRecursion}
use Rattle.std.proofs.Common.{◌≡◌, ℕ, zero, suc, List, length, Result, Ok, Err, refl}
use Rattle.hy_token.specs.declared.Bad.{Bad}
use Rattle.hy_token.specs.declared.Sign.TheVariants.{Semicolon}
use Rattle.hy_token.specs.declared.Span.{Span}
use Rattle.hy_token.specs.declared.Token.{Token}
use Rattle.hy_token.specs.declared.Token.TheVariants as token
use Rattle.hy_token.specs.Token.{token_at}
use Rattle.hy_parse.specs.Pieces.{ended, continued, pieces_within, most_pieces}
use Rattle.hy_setting.specs.Texts.{IsToken, PiecesAreTokens}

none_ended : (bytes : List ℕ) (found : Result (Token × Span) Bad) → AllByRecursion (IsToken bytes) (ended found).pieces
none_ended bytes (Ok found) = tt
none_ended bytes (Err bad) = tt

tokens_within : (most : ℕ) (bytes : List ℕ) (at : ℕ) → AllByRecursion (IsToken bytes) (pieces_within most bytes at).pieces
unfolding pieces_within
tokens_within zero bytes at = none_ended bytes (token_at bytes at)
tokens_within (suc most) bytes at = by_found (token_at bytes at) refl (tokens_within most bytes)
  where
    by_found : (found : Result (Token × Span) Bad) → token_at bytes at ≡ found
        → ((next : ℕ) → AllByRecursion (IsToken bytes) (pieces_within most bytes next).pieces)
        → AllByRecursion (IsToken bytes) (continued found (λ next. pieces_within most bytes next)).pieces
    by_found (Ok (token.Sign Semicolon, span)) e more = ((at, e), tt)
    by_found (Ok (token.End, span)) e more = tt
    by_found (Ok (t, span)) e more = ((at, e), more span.end)
    by_found (Err bad) e more = tt

pub pieces_are : PiecesAreTokens
pieces_are bytes at = tokens_within (most_pieces (length bytes) (token_at bytes at)) bytes at
