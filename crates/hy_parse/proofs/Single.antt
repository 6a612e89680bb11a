-- A comparison that is a whole condition.
use Rattle.std.proofs.Common.{◌≡◌, ℕ, zero, suc, Bool, true, false, List, [], ◌∷◌, length, None, refl, sym, ◌∙◌}
use Rattle.hy_token.specs.declared.Keyword.{Keyword}
use Rattle.hy_token.specs.declared.Keyword.TheVariants.{And, Not, Or}
use Rattle.hy_token.specs.declared.Sign.{Sign}
use Rattle.hy_token.specs.declared.Sign.TheVariants.{LeftParen}
use Rattle.hy_token.specs.declared.Token.{Token}
use Rattle.hy_token.specs.declared.Token.TheVariants as token
use Rattle.hy_ast.specs.Trees.{Test}
use Rattle.hy_parse.specs.declared.Piece.{Piece}
use Rattle.hy_parse.specs.Reading.{Done, Stuck, begins, column_at, comparison_at, piece_at, conjunction_by, same, seen, sign, span_of, test_at, test_by, unit_at, word}
use Rattle.hy_parse.proofs.Loops.{none}

-- a name is no reserved word and no sign
is_word : (t : Token) (k : Keyword) → same token.Name t ≡ true → same (word k) t ≡ false
is_word token.Name k is = refl
is_word (token.Reserved r) k is = absurd cc
is_word (token.Sign s) k is = absurd cc
is_word token.Integer k is = absurd cc
is_word token.Text k is = absurd cc
is_word token.End k is = absurd cc

is_sign : (t : Token) (k : Sign) → same token.Name t ≡ true → same (sign k) t ≡ false
is_sign token.Name k is = refl
is_sign (token.Reserved r) k is = absurd cc
is_sign (token.Sign s) k is = absurd cc
is_sign token.Integer k is = absurd cc
is_sign token.Text k is = absurd cc
is_sign token.End k is = absurd cc

-- a unit that begins with a name is a comparison
unit_named : (levels : ℕ) (pieces : List Piece) → begins token.Name pieces ≡ true → unit_at levels pieces ≡ comparison_at pieces
unfolding unit_at
unit_named zero pieces is = refl
unit_named (suc levels) [] is = absurd cc
unit_named (suc levels) (piece ∷ pieces) is = rw (is_word piece.token Not is, is_sign piece.token LeftParen is) refl

pub unseen : (t : Token) (pieces : List Piece) → begins t pieces ≡ false → seen (span_of t) pieces ≡ None
unseen t [] is = refl
unseen t (piece ∷ pieces) is = rw is refl

conjunction_alone : (levels : ℕ) (pieces rest : List Piece) (test : Test) → begins token.Name pieces ≡ true → comparison_at pieces ≡ Done test rest
    → begins (word And) rest ≡ false → conjunction_by (unit_at levels) pieces ≡ Done test rest
unfolding conjunction_by
conjunction_alone levels pieces rest test named is alone =
    rw (unit_named levels pieces named ∙ is) (none (span_of (word And)) _ (unit_at levels) (length rest) test rest (unseen (word And) rest alone))

-- a comparison begins with a name
not_named : (piece : Piece) (pieces : List Piece) → same token.Name piece.token ≡ false → comparison_at (piece ∷ pieces) ≡ Stuck (piece ∷ pieces)
unfolding comparison_at column_at piece_at
not_named piece pieces is = rw is refl

named_piece : (piece : Piece) (pieces rest : List Piece) (test : Test) (named : Bool) → same token.Name piece.token ≡ named
    → comparison_at (piece ∷ pieces) ≡ Done test rest → named ≡ true
named_piece piece pieces rest test true h is = refl
named_piece piece pieces rest test false h is = let e : Stuck (piece ∷ pieces) ≡ Done test rest = sym (not_named piece pieces h) ∙ is in absurd cc

none_there : comparison_at [] ≡ Stuck []
unfolding comparison_at column_at piece_at
none_there = refl

named : (pieces rest : List Piece) (test : Test) → comparison_at pieces ≡ Done test rest → begins token.Name pieces ≡ true
named [] rest test is = let e : Stuck [] ≡ Done test rest = sym none_there ∙ is in absurd cc
named (piece ∷ pieces) rest test is = named_piece piece pieces rest test (same token.Name piece.token) refl is

-- a comparison with neither AND nor OR behind it is the whole condition
pub single : (levels : ℕ) (pieces rest : List Piece) (test : Test) → comparison_at pieces ≡ Done test rest
    → begins (word And) rest ≡ false → begins (word Or) rest ≡ false → test_at levels pieces ≡ Done test rest
unfolding test_by
single levels pieces rest test is no_and no_or =
    rw (conjunction_alone levels pieces rest test (named pieces rest test is) is no_and) (none (span_of (word Or)) _ (conjunction_by (unit_at levels)) (length rest) test rest (unseen (word Or) rest no_or))
