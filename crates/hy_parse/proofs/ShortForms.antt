-- Short assignments, conditions and selections: what pieces with these tokens are read as.
use Rattle.std.proofs.Common.{◌≡◌, ℕ, Bool, true, false, List, [], ◌∷◌, ◌++◌, length, Option, Some, None, refl, sym, ap, subst, ◌∙◌}
use Rattle.hy_token.specs.declared.Keyword.TheVariants.{And, From, Or, Where}
use Rattle.hy_token.specs.declared.Sign.TheVariants.{Comma, Equal, Plus, Minus, Semicolon}
use Rattle.hy_token.specs.declared.Span.{Span}
use Rattle.hy_token.specs.declared.Token.{Token}
use Rattle.hy_token.specs.declared.Token.TheVariants as token
use Rattle.hy_ast.specs.declared.Listed.TheVariants.{Columns}
use Rattle.hy_ast.specs.declared.Operand.TheVariants as operands
use Rattle.hy_ast.specs.declared.Operator.{Operator}
use Rattle.hy_ast.specs.declared.Operator.TheVariants as operator
use Rattle.hy_ast.specs.declared.ShortSet.{ShortSet}
use Rattle.hy_ast.specs.declared.ShortTest.{ShortTest}
use Rattle.hy_ast.specs.Trees.{Formula, SetClause, Test, Rows, clause_of_short, test_of_short, unqualified, unsigned}
use Rattle.hy_parse.specs.declared.Piece.{Piece}
use Rattle.hy_parse.specs.Reading.{Read, Done, Stuck, ◌>>=◌, addition, addition_of, begins, same, seen, span_at, word, sign, span_of, condition_at, set_clause_at, items_at, after, piece_at, operand_at, column_at, columns_at, formula_at, literal_at, links_within, rows_at, from_at, selection_at, test_at, comparison_at, compared_at}
use Rattle.std.proofs.lemmas.Option.{same_Some}
use Rattle.hy_parse.proofs.Choices.{same_is}
use Rattle.hy_parse.proofs.Loops.{none}
use Rattle.hy_parse.proofs.Pairs.{pair}
use Rattle.hy_parse.proofs.Single.{single}
use Rattle.hy_limits.specs.declared.TheConstants.{MOST_LEVELS}

abbrev piece : Token → Span → Piece
piece token span = record { token = token; span = span }

-- ---- one piece

span_in : Read Span → Span
span_in (Done span rest) = span
span_in (Stuck rest) = record { start = 0; end = 0 }

rest_in : Read Span → List Piece
rest_in (Done span rest) = rest
rest_in (Stuck rest) = rest

opened_by : (t : Token) (p : Piece) (pieces rest : List Piece) (span : Span) (is_so : Bool) → same t p.token ≡ is_so
    → span_at t (p ∷ pieces) ≡ Done span rest → p ∷ pieces ≡ piece t span ∷ rest
unfolding piece_at span_in rest_in
opened_by t p pieces rest span true h is =
    let found : Done p.span pieces ≡ Done span rest = rw h at is in
    ap (λ (k : Token). piece k p.span ∷ pieces) (sym (same_is t p.token h))
    ∙ (ap (λ (s : Span). piece t s ∷ pieces) (ap span_in found) ∙ ap (λ (others : List Piece). piece t span ∷ others) (ap rest_in found))
opened_by t p pieces rest span false h is = absurd cc

-- what is read as this token begins with it
opened : (t : Token) (pieces rest : List Piece) (span : Span) → span_at t pieces ≡ Done span rest → pieces ≡ piece t span ∷ rest
unfolding piece_at
opened t [] rest span is = absurd cc
opened t (p ∷ pieces) rest span is = opened_by t p pieces rest span (same t p.token) refl is

-- ---- conditions

compared : (column equal digits end : Span) (pieces : List Piece)
    → comparison_at (piece token.Name column ∷ piece (sign Equal) equal ∷ piece token.Integer digits ∷ piece (sign Semicolon) end ∷ pieces)
    ≡ Done (test_of_short (record { column = column; at = equal; digits = digits })) (piece (sign Semicolon) end ∷ pieces)
unfolding piece_at operand_at column_at literal_at comparison_at compared_at
compared column equal digits end pieces = refl

behind_where : (with : Span) (pieces : List Piece)
    → condition_at (piece (word Where) with ∷ pieces) ≡ (test_at MOST_LEVELS pieces >>= λ test. Done (Some test.0) test.1)
unfolding condition_at after piece_at
behind_where with pieces = refl

test_read : (with column equal digits end : Span) (pieces : List Piece)
    → condition_at (piece (word Where) with ∷ piece token.Name column ∷ piece (sign Equal) equal ∷ piece token.Integer digits ∷ piece (sign Semicolon) end ∷ pieces)
    ≡ Done (Some (test_of_short (record { column = column; at = equal; digits = digits }))) (piece (sign Semicolon) end ∷ pieces)
test_read with column equal digits end pieces =
    behind_where with _
    ∙ ap (λ (r : Read Test). r >>= λ test. Done (Some test.0) test.1)
    (single MOST_LEVELS _ (piece (sign Semicolon) end ∷ pieces) _ (compared column equal digits end pieces) refl refl)

-- where `;` follows
test_ends : (with column equal digits : Span) (pieces : List Piece) → begins (sign Semicolon) pieces ≡ true
    → condition_at (piece (word Where) with ∷ piece token.Name column ∷ piece (sign Equal) equal ∷ piece token.Integer digits ∷ pieces)
    ≡ Done (Some (test_of_short (record { column = column; at = equal; digits = digits }))) pieces
test_ends with column equal digits [] is = absurd cc
test_ends with column equal digits (end ∷ pieces) is =
    subst (λ (t : Token). condition_at (piece (word Where) with ∷ piece token.Name column ∷ piece (sign Equal) equal ∷ piece token.Integer digits ∷ piece t end.span ∷ pieces)
    ≡ Done (Some (test_of_short (record { column = column; at = equal; digits = digits }))) (piece t end.span ∷ pieces))
    (same_is (sign Semicolon) end.token is) (test_read with column equal digits end.span pieces)

pub short_test : (pieces named compared valued behind : List Piece) (with column equal digits : Span) → span_at (word Where) pieces ≡ Done with named
    → span_at token.Name named ≡ Done column compared → span_at (sign Equal) compared ≡ Done equal valued
    → span_at token.Integer valued ≡ Done digits behind → begins (sign Semicolon) behind ≡ true
    → condition_at pieces ≡ Done (Some (test_of_short (record { column = column; at = equal; digits = digits }))) behind
short_test pieces named compared valued behind with column equal digits w c e d s =
    rw (opened (word Where) pieces named with w, opened token.Name named compared column c, opened (sign Equal) compared valued equal e, opened token.Integer valued behind digits d)
    (test_ends with column equal digits behind s)

-- ---- assignments

plain : (name : Span) (pieces : List Piece) (t : Token) (at : Span) (op : Operator) → addition_of t ≡ Some op
    → operand_at (piece token.Name name ∷ piece t at ∷ pieces) ≡ Done (operands.Column (unqualified name)) (piece t at ∷ pieces)
unfolding operand_at column_at piece_at
plain name pieces (token.Sign Plus) at op is = refl
plain name pieces (token.Sign Minus) at op is = refl
plain name pieces _ at op is = absurd cc

seen_addition : (t : Token) (at : Span) (op : Operator) (pieces : List Piece) → addition_of t ≡ Some op
    → seen addition (piece t at ∷ pieces) ≡ Some ((op, at), pieces)
seen_addition (token.Sign Plus) at operator.Plus pieces is = refl
seen_addition (token.Sign Minus) at operator.Minus pieces is = refl
seen_addition _ at _ pieces is = absurd cc

digits_read : (digits : Span) (pieces : List Piece)
    → operand_at (piece token.Integer digits ∷ pieces) ≡ Done (operands.Literal (unsigned digits)) pieces
unfolding operand_at literal_at piece_at
digits_read digits pieces = refl

behind_equal : (column equal : Span) (pieces : List Piece)
    → set_clause_at (piece token.Name column ∷ piece (sign Equal) equal ∷ pieces)
    ≡ (formula_at MOST_LEVELS pieces >>= λ value. Done (record { column = column; value = value.0 }) value.1)
unfolding set_clause_at after piece_at
behind_equal column equal pieces = refl

one_clause : (pieces : List Piece) (with : Span) (rest : List Piece) (clause : SetClause)
    → set_clause_at pieces ≡ Done clause (piece (word Where) with ∷ rest)
    → items_at [] set_clause_at pieces ≡ Done (clause ∷ []) (piece (word Where) with ∷ rest)
unfolding items_at
one_clause pieces with rest clause is =
    rw is (none (span_of (sign Comma)) (λ items _ item. items ++ item ∷ []) set_clause_at (length (piece (word Where) with ∷ rest)) (clause ∷ []) (piece (word Where) with ∷ rest) refl)

set_read : (column equal left between digits with : Span) (t : Token) (op : Operator) (pieces : List Piece) → addition_of t ≡ Some op
    → set_clause_at (piece token.Name column ∷ piece (sign Equal) equal ∷ piece token.Name left ∷ piece t between ∷ piece token.Integer digits
    ∷ piece (word Where) with ∷ pieces)
    ≡ Done (clause_of_short (record { column = column; left = left; op = op; at = between; digits = digits })) (piece (word Where) with ∷ pieces)
set_read column equal left between digits with t op pieces is =
    behind_equal column equal _
    ∙ ap (λ (r : Read Formula). r >>= λ value. Done (record { column = column; value = value.0 }) value.1)
    (pair MOST_LEVELS _ _ _ _ _ _ (op, between) (plain left _ t between op is) (seen_addition t between op _ is) (digits_read digits _) refl refl)

-- where WHERE follows
set_ends : (column equal left between digits : Span) (t : Token) (op : Operator) (pieces : List Piece) → addition_of t ≡ Some op
    → begins (word Where) pieces ≡ true
    → items_at [] set_clause_at (piece token.Name column ∷ piece (sign Equal) equal ∷ piece token.Name left ∷ piece t between ∷ piece token.Integer digits ∷ pieces)
    ≡ Done (clause_of_short (record { column = column; left = left; op = op; at = between; digits = digits }) ∷ []) pieces
set_ends column equal left between digits t op [] plus is = absurd cc
set_ends column equal left between digits t op (with ∷ pieces) plus is =
    subst (λ (k : Token). items_at [] set_clause_at (piece token.Name column ∷ piece (sign Equal) equal ∷ piece token.Name left ∷ piece t between
    ∷ piece token.Integer digits ∷ piece k with.span ∷ pieces)
    ≡ Done (clause_of_short (record { column = column; left = left; op = op; at = between; digits = digits }) ∷ []) (piece k with.span ∷ pieces))
    (same_is (word Where) with.token is)
    (one_clause _ with.span pieces _ (set_read column equal left between digits with.span t op pieces plus))

-- an addition that is seen
record Added (pieces : List Piece) (op : Operator) (at : Span) (rest : List Piece) : Type 0 where
  token : Token
  is : addition_of token ≡ Some op
  same : pieces ≡ piece token at ∷ rest

added : (pieces rest : List Piece) (op : Operator) (at : Span) → seen addition pieces ≡ Some ((op, at), rest) → Added pieces op at rest
added [] rest op at is = absurd cc
added (p ∷ pieces) rest op at is = added_by p.token p.span (addition_of p.token) refl is
  where
    added_by : (t : Token) (span : Span) (sum : Option Operator) → addition_of t ≡ sum → seen addition (piece t span ∷ pieces) ≡ Some ((op, at), rest)
        → Added (piece t span ∷ pieces) op at rest
    added_by t span None h sees = absurd cc
    added_by t span (Some sum) h sees =
        let found : Some ((sum, span), pieces) ≡ Some ((op, at), rest) = rw h at sees in
        let parts : ((sum, span), pieces) ≡ ((op, at), rest) = same_Some _ _ found in
        record {
          token = t;
          is = h ∙ ap (λ (x : (Operator × Span) × List Piece). Some x.0.0) parts;
          same = ap (λ (x : (Operator × Span) × List Piece). piece t x.0.1 ∷ x.1) parts;
        }

set_by : (pieces equals summed signed valued behind : List Piece) (column equal left at digits : Span) (t : Token) (op : Operator)
    → span_at token.Name pieces ≡ Done column equals → span_at (sign Equal) equals ≡ Done equal summed → span_at token.Name summed ≡ Done left signed
    → addition_of t ≡ Some op → signed ≡ piece t at ∷ valued → span_at token.Integer valued ≡ Done digits behind → begins (word Where) behind ≡ true
    → items_at [] set_clause_at pieces
    ≡ Done (clause_of_short (record { column = column; left = left; op = op; at = at; digits = digits }) ∷ []) behind
set_by pieces equals summed signed valued behind column equal left at digits t op c e l plus same d w =
    rw (opened token.Name pieces equals column c, opened (sign Equal) equals summed equal e, opened token.Name summed signed left l, same, opened token.Integer valued behind digits d)
    (set_ends column equal left at digits t op behind plus w)

pub short_set : (pieces equals summed signed valued behind : List Piece) (column equal left at digits : Span) (op : Operator)
    → span_at token.Name pieces ≡ Done column equals → span_at (sign Equal) equals ≡ Done equal summed → span_at token.Name summed ≡ Done left signed
    → seen addition signed ≡ Some ((op, at), valued) → span_at token.Integer valued ≡ Done digits behind → begins (word Where) behind ≡ true
    → items_at [] set_clause_at pieces
    ≡ Done (clause_of_short (record { column = column; left = left; op = op; at = at; digits = digits }) ∷ []) behind
short_set pieces equals summed signed valued behind column equal left at digits op c e l s d w =
    let sum = added signed valued op at s in
    set_by pieces equals summed signed valued behind column equal left at digits sum.token op c e l sum.is sum.same d w

-- ---- selections

columns_read : (column from table with : Span) (pieces : List Piece) (test : Test) (rest : List Piece)
    → condition_at (piece (word Where) with ∷ pieces) ≡ Done (Some test) rest
    → selection_at (piece token.Name column ∷ piece (word From) from ∷ piece token.Name table ∷ piece (word Where) with ∷ pieces)
    ≡ Done (Rows (Columns (unqualified column ∷ [])) table [] (Some test)) rest
unfolding selection_at columns_at column_at rows_at from_at after piece_at links_within
columns_read column from table with pieces test rest is = rw is refl

selection_ends : (column from table : Span) (pieces : List Piece) (test : Test) (rest : List Piece) → begins (word Where) pieces ≡ true
    → condition_at pieces ≡ Done (Some test) rest
    → selection_at (piece token.Name column ∷ piece (word From) from ∷ piece token.Name table ∷ pieces)
    ≡ Done (Rows (Columns (unqualified column ∷ [])) table [] (Some test)) rest
selection_ends column from table [] test rest w is = absurd cc
selection_ends column from table (with ∷ pieces) test rest w is =
    subst (λ (t : Token). condition_at (piece t with.span ∷ pieces) ≡ Done (Some test) rest
    → selection_at (piece token.Name column ∷ piece (word From) from ∷ piece token.Name table ∷ piece t with.span ∷ pieces)
    ≡ Done (Rows (Columns (unqualified column ∷ [])) table [] (Some test)) rest)
    (same_is (word Where) with.token w) (columns_read column from table with.span pieces test rest) is

pub short_selection : (pieces froms tables tests : List Piece) (column from table : Span) (test : Test) (rest : List Piece)
    → span_at token.Name pieces ≡ Done column froms → span_at (word From) froms ≡ Done from tables → span_at token.Name tables ≡ Done table tests
    → begins (word Where) tests ≡ true → condition_at tests ≡ Done (Some test) rest
    → selection_at pieces ≡ Done (Rows (Columns (unqualified column ∷ [])) table [] (Some test)) rest
short_selection pieces froms tables tests column from table test rest c f t w is =
    rw (opened token.Name pieces froms column c, opened (word From) froms tables from f, opened token.Name tables tests table t)
    (selection_ends column from table tests test rest w is)
