-- Right sides of assignments that are an addition of two operands.
use Rattle.std.proofs.Common.{◌≡◌, ℕ, zero, suc, Bool, true, false, List, [], ◌∷◌, length, Option, Some, None, refl, sym}
use Rattle.hy_token.specs.declared.Sign.{Sign}
use Rattle.hy_token.specs.declared.Sign.TheVariants.{LeftParen, Star}
use Rattle.hy_token.specs.declared.Span.{Span}
use Rattle.hy_token.specs.declared.Token.{Token}
use Rattle.hy_token.specs.declared.Token.TheVariants as token
use Rattle.hy_ast.specs.declared.Operand.{Operand}
use Rattle.hy_ast.specs.declared.Operator.{Operator}
use Rattle.hy_ast.specs.Trees.{Plain, Binary}
use Rattle.hy_parse.specs.declared.Piece.{Piece}
use Rattle.hy_parse.specs.Reading.{Done, Stuck, addition, begins, factor_at, formula_at, formula_by, links_within, literal_at, operand_at, piece_at, plain_at, same, seen, sign, span_of, term_by}
use Rattle.hy_parse.proofs.Loops.{none}
use Rattle.hy_parse.proofs.Single.{unseen}

-- a parenthesis is no operand
no_operand : (t : Token) (span : Span) (pieces rest : List Piece) (o : Operand) → same (sign LeftParen) t ≡ true
    → operand_at (record { token = t; span = span } ∷ pieces) ≡ Done o rest → false ≡ true
unfolding operand_at literal_at piece_at
no_operand (token.Sign LeftParen) span pieces rest o is read = cc
no_operand _ span pieces rest o is read = is

opens_not : (piece : Piece) (pieces rest : List Piece) (o : Operand) (paren : Bool) → same (sign LeftParen) piece.token ≡ paren
    → operand_at (piece ∷ pieces) ≡ Done o rest → paren ≡ false
opens_not piece pieces rest o false is read = refl
opens_not piece pieces rest o true is read = sym (no_operand piece.token piece.span pieces rest o is read)

no_paren : (pieces rest : List Piece) (o : Operand) → operand_at pieces ≡ Done o rest → begins (sign LeftParen) pieces ≡ false
no_paren [] rest o read = refl
no_paren (piece ∷ pieces) rest o read = opens_not piece pieces rest o (same (sign LeftParen) piece.token) refl read

-- an operand is a factor
factor_alone : (levels : ℕ) (pieces rest : List Piece) (o : Operand) → operand_at pieces ≡ Done o rest → factor_at levels pieces ≡ Done (Plain o) rest
unfolding factor_at plain_at
factor_alone zero pieces rest o read = rw read refl
factor_alone (suc levels) pieces rest o read = rw (no_paren pieces rest o read, read) refl

-- and with no `*` behind it a term
term_alone : (levels : ℕ) (pieces rest : List Piece) (o : Operand) → operand_at pieces ≡ Done o rest → begins (sign Star) rest ≡ false
    → term_by (factor_at levels) pieces ≡ Done (Plain o) rest
unfolding term_by
term_alone levels pieces rest o read no_star =
    rw (factor_alone levels pieces rest o read) (none (span_of (sign Star)) _ (factor_at levels) (length rest) (Plain o) rest (unseen (sign Star) rest no_star))

-- an addition is no `*`
added : (t : Token) (span : Span) (op : Operator × Span) (pieces behind : List Piece) → seen addition (record { token = t; span = span } ∷ pieces) ≡ Some (op, behind)
    → same (sign Star) t ≡ false
added (token.Sign Star) span op pieces behind is = absurd cc
added _ span op pieces behind is = refl

no_star : (pieces behind : List Piece) (op : Operator × Span) → seen addition pieces ≡ Some (op, behind) → begins (sign Star) pieces ≡ false
no_star [] behind op is = refl
no_star (piece ∷ pieces) behind op is = added piece.token piece.span op pieces behind is

-- one addition, with nothing behind that goes on
next_one : (levels most : ℕ) (pieces behind last : List Piece) (left right : Operand) (op : Operator × Span) → seen addition pieces ≡ Some (op, behind)
    → term_by (factor_at levels) behind ≡ Done (Plain right) last → seen addition last ≡ None
    → links_within addition (λ left op right. Binary left op.0 op.1 right) (term_by (factor_at levels)) (suc most) (Plain left) pieces
    ≡ Done (Binary (Plain left) op.0 op.1 (Plain right)) last
unfolding links_within
next_one levels most pieces behind last left right op plus second ends =
    rw (plus, second) (none addition (λ left op right. Binary left op.0 op.1 right) (term_by (factor_at levels)) most (Binary (Plain left) op.0 op.1 (Plain right)) last ends)

pub pair : (levels : ℕ) (pieces rest behind last : List Piece) (left right : Operand) (op : Operator × Span) → operand_at pieces ≡ Done left rest
    → seen addition rest ≡ Some (op, behind) → operand_at behind ≡ Done right last → begins (sign Star) last ≡ false → seen addition last ≡ None
    → formula_at levels pieces ≡ Done (Binary (Plain left) op.0 op.1 (Plain right)) last
unfolding formula_by
pair levels pieces [] behind last left right op first plus second ends_product ends_sum = absurd cc
pair levels pieces (piece ∷ rest) behind last left right op first plus second ends_product ends_sum =
    rw (term_alone levels pieces (piece ∷ rest) left first (no_star (piece ∷ rest) behind op plus))
    (next_one levels (length rest) (piece ∷ rest) behind last left right op plus (term_alone levels behind last right second ends_product) ends_sum)
