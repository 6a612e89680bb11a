-- Statements that are written token by token, and are parsed so.
use Rattle.std.proofs.Common.{◌≡◌, ℕ, zero, suc, ◌<◌, ◌≤◌, List, [], ◌∷◌, ◌++◌, length, Result, Ok, refl, sym, ap, subst, ◌∙◌, arith}
use Rattle.std.specs.Prelude.{◌↔◌}
use Rattle.hy_token.specs.declared.Bad.{Bad}
use Rattle.hy_token.specs.declared.Keyword.{Keyword}
use Rattle.hy_token.specs.declared.Keyword.TheVariants as keyword
use Rattle.hy_token.specs.declared.Sign.TheVariants as sign
use Rattle.hy_token.specs.declared.Span.{Span}
use Rattle.hy_token.specs.declared.Token.{Token}
use Rattle.hy_token.specs.declared.Token.TheVariants as token
use Rattle.hy_token.specs.Token.{token_at}
use Rattle.hy_ast.specs.Trees.{Statement}
use Rattle.hy_parse.specs.declared.Piece.{Piece}
use Rattle.hy_parse.specs.declared.Ending.TheVariants.{Closed}
use Rattle.hy_parse.specs.Grammar.{Mark, Any, At, Marks, Match, word, body, IsGrouped, levels}
use Rattle.hy_parse.specs.Grammar as grammar
use Rattle.hy_parse.specs.Parsing.{Parses, parsed}
use Rattle.hy_parse.specs.Pieces.{Pieces, piece_of, preceded, continued, pieces_within, most_pieces, pieces_of}
use Rattle.hy_limits.specs.declared.TheConstants.{MOST_LEVELS, MOST_TOKENS}
use Rattle.hy_dump.proofs.Tokens.{Stands}

-- that a statement is parsed just where its tokens are a sentence
abbrev pub IsParsedSo : Type 0
IsParsedSo = (bytes : List ℕ) (at : ℕ) (s : Statement) (end : ℕ) → (parsed bytes at ≡ Ok (s, end)) ↔ Parses bytes at s end

-- a token behind which a statement goes on
abbrev pub GoesOn : Token → Type 0
GoesOn (token.Sign sign.Semicolon) = ⊥
GoesOn token.End = ⊥
GoesOn _ = Unit {0}

-- the tokens from an offset on, up to this one, are those of the marks
abbrev pub Written : List ℕ → ℕ → List Mark → ℕ → Type 0
Written bytes at [] end = at ≡ end
Written bytes at (mark ∷ marks) end =
    (piece : Piece) × (token_at bytes at ≡ Ok (piece.token, piece.span)) × GoesOn piece.token × Marks piece mark × Written bytes piece.span.end marks end

pub written_both : (bytes : List ℕ) (at mid end : ℕ) (one other : List Mark) → Written bytes at one mid → Written bytes mid other end
    → Written bytes at (one ++ other) end
written_both bytes at mid end [] other first second = subst (λ (n : ℕ). Written bytes n other end) (sym first) second
written_both bytes at mid end (mark ∷ one) other first second =
    (first.0, first.1, first.2, first.3, written_both bytes first.0.span.end mid end one other first.4 second)

-- one token, whatever its span is
pub any_written : (bytes : List ℕ) (at : ℕ) (t : Token) (text rest : List ℕ) (stands : Stands bytes at t text rest) → GoesOn t
    → Written bytes at (Any t ∷ []) stands.span.end
any_written bytes at t text rest stands goes = (record { token = t; span = stands.span }, stands.token, goes, refl, refl)

-- one token with its span
pub at_written : (bytes : List ℕ) (at : ℕ) (t : Token) (text rest : List ℕ) (stands : Stands bytes at t text rest) → GoesOn t
    → Written bytes at (At t stands.span ∷ []) stands.span.end
at_written bytes at t text rest stands goes = (record { token = t; span = stands.span }, stands.token, goes, refl, refl)

continued_on : (t : Token) (span : Span) (others : ℕ → Pieces) → GoesOn t → continued (Ok (t, span)) others ≡ preceded (piece_of t span) (others span.end)
continued_on (token.Sign sign.Semicolon) span others goes = absurd goes
continued_on token.End span others goes = absurd goes
continued_on t span others goes = refl

-- the pieces of marks that a semicolon follows
record Gathered (most : ℕ) (bytes : List ℕ) (at : ℕ) (span : Span) (marks : List Mark) : Type 0 where
  pieces : List Piece
  are : pieces_within most bytes at ≡ record { pieces = pieces; ending = Closed span.end }
  match : Match pieces (marks ++ grammar.sign sign.Semicolon ∷ [])

gathered : (most : ℕ) (bytes : List ℕ) (at mid : ℕ) (span : Span) (marks : List Mark) → Written bytes at marks mid
    → token_at bytes mid ≡ Ok (token.Sign sign.Semicolon, span) → length marks < most → Gathered most bytes at span marks
unfolding pieces_within
gathered zero bytes at mid span marks written ends few = absurd (omega (arith, few))
gathered (suc most) bytes at mid span [] written ends few = record {
  pieces = piece_of (token.Sign sign.Semicolon) span ∷ [];
  are = ap (λ (found : Result (Token × Span) Bad). continued found (λ next. pieces_within most bytes next)) (ap (token_at bytes) written ∙ ends);
  match = (refl, tt);
}
gathered (suc most) bytes at mid span (mark ∷ marks) written ends few =
    let more = gathered most bytes written.0.span.end mid span marks written.4 ends (omega (arith, few)) in
    record {
      pieces = written.0 ∷ more.pieces;
      are =
          ap (λ (found : Result (Token × Span) Bad). continued found (λ next. pieces_within most bytes next)) written.1
          ∙ (continued_on written.0.token written.0.span (λ next. pieces_within most bytes next) written.2
          ∙ ap (preceded (piece_of written.0.token written.0.span)) more.are);
      match = (written.3, more.match);
    }

-- a word that begins no schedule
abbrev pub HasMost : Keyword → Type 0
HasMost keyword = (len : ℕ) (span : Span) → most_pieces len (Ok (token.Reserved keyword, span)) ≡ MOST_TOKENS

pub create_most : HasMost keyword.Create
unfolding most_pieces
create_most len span = refl

pub insert_most : HasMost keyword.Insert
unfolding most_pieces
insert_most len span = refl

pub end_most : HasMost keyword.End
unfolding most_pieces
end_most len span = refl

-- a statement whose tokens were written is parsed, up to the semicolon
pub statement_parsed : IsParsedSo → (bytes : List ℕ) (at mid : ℕ) (span : Span) (first : Keyword) (marks : List Mark) (s : Statement)
    → HasMost first → body s ≡ word first ∷ marks → Written bytes at (word first ∷ marks) mid
    → token_at bytes mid ≡ Ok (token.Sign sign.Semicolon, span) → suc (length marks) < MOST_TOKENS → IsGrouped s → levels s ≤ MOST_LEVELS
    → parsed bytes at ≡ Ok (s, span.end)
statement_parsed parses bytes at mid span first marks s most is written ends few grouped low =
    let all = gathered MOST_TOKENS bytes at mid span (word first ∷ marks) written ends few in
    let begins : token_at bytes at ≡ Ok (token.Reserved first, written.0.span) =
    written.1 ∙ ap (λ (t : Token). let both : Token × Span = (t, written.0.span) in Ok both) written.3 in
    let many : most_pieces (length bytes) (token_at bytes at) ≡ MOST_TOKENS = ap (most_pieces (length bytes)) begins ∙ most (length bytes) written.0.span in
    let are : pieces_of bytes at ≡ record { pieces = all.pieces; ending = Closed span.end } =
    ap (λ (n : ℕ). pieces_within n bytes at) many ∙ all.are in
    (parses bytes at s span.end).1 (record {
      closed = ap (λ (found : Pieces). found.ending) are;
      written = record {
        matches =
            subst (λ (marks : List Mark). Match (pieces_of bytes at).pieces (marks ++ grammar.sign sign.Semicolon ∷ [])) (sym is)
            (subst (λ (found : Pieces). Match found.pieces ((word first ∷ marks) ++ grammar.sign sign.Semicolon ∷ [])) (sym are) all.match);
        grouped = grouped;
      };
      within = low;
    })
