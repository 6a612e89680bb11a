-- The texts that a statement writes are UTF-8, where the script is that it stands in.
use Rattle.std.specs.Prelude.{◌↔◌}
use Rattle.std.specs.List.{All, AllByRecursion, flat_map}
use Rattle.std.specs.Str.{IsUtf8}
use Rattle.std.proofs.Common.{◌≡◌, ℕ, ℤ, Bool, true, false, cond, List, [], ◌∷◌, ◌++◌, Option, None, Some, Ok, is_some, map, ap, subst, ◌∙◌}
use Rattle.std.proofs.lemmas.List.Concat.{flat_map-cons}
use Rattle.std.proofs.lemmas.List.Elements.{All-nil, All-map, All-from_recursion}
use Rattle.std.proofs.lemmas.Str.{IsUtf8-nil}
use Rattle.hy_token.specs.declared.Sign.TheVariants.{Comma}
use Rattle.hy_token.specs.declared.Span.{Span}
use Rattle.hy_token.specs.Token.{token_at}
use Rattle.hy_value.specs.TextBytes.{is_text, text_of}
use Rattle.hy_schema.specs.declared.TableDef.{TableDef}
use Rattle.hy_ast.specs.declared.Literal.{Literal}
use Rattle.hy_ast.specs.declared.Literal.TheVariants as literals
use Rattle.hy_ast.specs.declared.Operand.{Operand}
use Rattle.hy_ast.specs.declared.Operand.TheVariants as operands
use Rattle.hy_ast.specs.declared.Operator.{Operator}
use Rattle.hy_ast.specs.declared.Operator.TheVariants as operator
use Rattle.hy_ast.specs.Trees.{Formula, SetClause, Selection, Statement}
use Rattle.hy_ast.specs.Trees as tree
use Rattle.hy_parse.specs.declared.Piece.{Piece}
use Rattle.hy_parse.specs.Grammar.{Mark, Any, At, Marks, Match, marks, separated, sign}
use Rattle.hy_parse.specs.Grammar as grammar
use Rattle.hy_parse.specs.Parsing.{Parses, parsed}
use Rattle.hy_bound.specs.declared.Assign.{Assign}
use Rattle.hy_bound.specs.Expression.{Expression}
use Rattle.hy_bind.specs.Literals.{text_of_span, unquoted, integer_of, integer_value, number_of, literal_value}
use Rattle.hy_bind.specs.Scope.{Scope}
use Rattle.hy_bind.specs.Expressions.{binary_bound, formula_bound}
use Rattle.hy_bind.specs.Statements.{in_scope, numbers_of, numbers_or_none, tables_of, selection_bound, set_bound, bound_of}
use Rattle.hy_stepping.specs.Texts.{IsUtf8Value, IsUtf8Row, HasUtf8Texts, WritesUtf8}
use Rattle.hy_setting.specs.Texts.{IsToken, PiecesAreTokens, WhatIsParsedIsUtf8}
use Rattle.hy_setting.proofs.QuotedTexts.{token_text_utf8}

-- ---- the marks of a statement stand in the script

-- what has a span of its own is a token of the script there
abbrev StandsIn : List ℕ → Mark → Type 0
StandsIn script (Any token) = Unit {0}
StandsIn script (At token span) = (at : ℕ) × (token_at script at ≡ Ok (token, span))

abbrev AllStandIn : List ℕ → List Mark → Type 0
AllStandIn script ms = AllByRecursion (StandsIn script) ms

mark_stands : (script : List ℕ) (piece : Piece) (mark : Mark) → Marks piece mark → IsToken script piece → StandsIn script mark
mark_stands script piece (Any token) is found = tt
mark_stands script piece (At token span) is found = (found.0, found.1 ∙ ap (λ (p : Piece). Ok (p.token, p.span)) is)

marks_stand : (script : List ℕ) (pieces : List Piece) (ms : List Mark) → Match pieces ms → AllByRecursion (IsToken script) pieces → AllStandIn script ms
marks_stand script [] [] matches all = tt
marks_stand script [] (mark ∷ ms) matches all = absurd matches
marks_stand script (piece ∷ pieces) [] matches all = absurd matches
marks_stand script (piece ∷ pieces) (mark ∷ ms) matches all =
    (mark_stands script piece mark matches.0 all.0, marks_stand script pieces ms matches.1 all.1)

-- of two lists that stand in the script one after the other both do
in_parts : (script : List ℕ) (front back : List Mark) → AllStandIn script (front ++ back) → AllStandIn script front × AllStandIn script back
in_parts script [] back all = (tt, all)
in_parts script (mark ∷ front) back all = let parts = in_parts script front back all.1 in ((all.0, parts.0), parts.1)

module _ {A : Type 0} (script : List ℕ) (write : A → List Mark) (P : A → Type 0) (one : (x : A) → AllStandIn script (write x) → P x) where
  later : (xs : List A) → AllStandIn script (flat_map (λ (x : A). sign Comma ∷ write x) xs) → AllByRecursion P xs
  later [] all = tt
  later (x ∷ xs) all =
      let parts = in_parts script (sign Comma ∷ write x) (flat_map (λ (x : A). sign Comma ∷ write x) xs)
      (subst (AllStandIn script) (flat_map-cons (λ (x : A). sign Comma ∷ write x) x xs) all) in
      (one x parts.0.1, later xs parts.1)

  -- what holds of each part with commas between
  each_separated : (xs : List A) → AllStandIn script (separated write xs) → All P xs
  each_separated [] all = All-nil P
  each_separated (x ∷ xs) all =
      let parts = in_parts script (write x) (flat_map (λ (x : A). sign Comma ∷ write x) xs) all in
      All-from_recursion P (x ∷ xs) (one x parts.0, later xs parts.1)

-- ---- literals and expressions

text_utf8 : (text : List ℕ) → IsUtf8 text → IsUtf8 (text_of text)
text_utf8 text utf8 = by_test (is_text text)
  where
    by_test : (is : Bool) → IsUtf8 (cond is text [])
    by_test true = utf8
    by_test false = IsUtf8-nil

integer_utf8 : (number : Option ℤ) → IsUtf8Value (integer_value number)
integer_utf8 None = tt
integer_utf8 (Some number) = tt

literal_utf8 : (script : List ℕ) → IsUtf8 script → (literal : Literal) → AllStandIn script (grammar.literal literal) → IsUtf8Value (literal_value script literal)
literal_utf8 script utf8 (literals.Null span) all = tt
literal_utf8 script utf8 (literals.Integer minus digits) all = integer_utf8 (integer_of (is_some minus) (number_of (text_of_span script digits)))
literal_utf8 script utf8 (literals.Text span) all =
    text_utf8 (unquoted (text_of_span script span)) (token_text_utf8 script all.0.0 span utf8 all.0.1)

row_utf8 : (script : List ℕ) → IsUtf8 script → (values : List Literal) → AllStandIn script (separated grammar.literal values)
    → IsUtf8Row (map (literal_value script) values)
row_utf8 script utf8 values all =
    All-map IsUtf8Value (literal_value script) values
    (each_separated script grammar.literal (λ (literal : Literal). IsUtf8Value (literal_value script literal)) (literal_utf8 script utf8) values all)

operand_utf8 : (scope : Scope) → IsUtf8 scope.script → (operand : Operand) → AllStandIn scope.script (grammar.operand operand)
    → HasUtf8Texts (formula_bound scope (tree.Plain operand))
operand_utf8 scope utf8 (operands.Column reference) all = tt
operand_utf8 scope utf8 (operands.Literal literal) all = literal_utf8 scope.script utf8 literal all

binary_utf8 : (op : Operator) (left right : Expression) → HasUtf8Texts left → HasUtf8Texts right → HasUtf8Texts (binary_bound op left right)
binary_utf8 operator.Plus left right one other = (one, other)
binary_utf8 operator.Minus left right one other = (one, other)
binary_utf8 operator.Times left right one other = (one, other)

formula_utf8 : (scope : Scope) → IsUtf8 scope.script → (formula : Formula) → AllStandIn scope.script (grammar.formula formula)
    → HasUtf8Texts (formula_bound scope formula)
formula_utf8 scope utf8 (tree.Plain operand) all = operand_utf8 scope utf8 operand all
formula_utf8 scope utf8 (tree.Binary left op at right) all =
    let parts = in_parts scope.script (grammar.formula left) _ all in
    binary_utf8 op (formula_bound scope left) (formula_bound scope right) (formula_utf8 scope utf8 left parts.0) (formula_utf8 scope utf8 right parts.1.1)
formula_utf8 scope utf8 (tree.Bracket inner) all = formula_utf8 scope utf8 inner (in_parts scope.script (grammar.formula inner) _ all.1).0

-- ---- statements

sets_utf8 : (scope : Scope) → IsUtf8 scope.script → (sets : List SetClause) → AllStandIn scope.script (separated grammar.set_clause sets)
    → All (λ (assign : Assign). HasUtf8Texts assign.value) (map (set_bound scope) sets)
sets_utf8 scope utf8 sets all =
    All-map (λ (assign : Assign). HasUtf8Texts assign.value) (set_bound scope) sets
    (each_separated scope.script grammar.set_clause (λ (set : SetClause). HasUtf8Texts (formula_bound scope set.value))
    (λ set stand. formula_utf8 scope utf8 set.value stand.1.1) sets all)

selection_utf8 : (scope : Scope) (selection : Selection) → WritesUtf8 (selection_bound scope selection)
selection_utf8 scope (tree.Rows listed table joins test) = tt
selection_utf8 scope (tree.Count table test) = tt
selection_utf8 scope (tree.Groups column total table test key) = tt

-- the scope that a statement is bound in
abbrev scope_of : List ℕ → List TableDef → Statement → Scope
scope_of script catalog s = in_scope script catalog (numbers_or_none (numbers_of script catalog (tables_of s)))

-- the literals of an INSERT
values_stand : (script : List ℕ) (table : Span) (values : List Literal) → AllStandIn script (marks (tree.Insert table values))
    → AllStandIn script (separated grammar.literal values)
values_stand script table values all =
    (in_parts script (separated grammar.literal values) _ (in_parts script (separated grammar.literal values ++ _) _ all.1.1.1.1.1).0).0

bound_utf8 : (script : List ℕ) → IsUtf8 script → (catalog : List TableDef) (s : Statement) → AllStandIn script (marks s)
    → WritesUtf8 (bound_of script catalog s)
bound_utf8 script utf8 catalog (tree.Insert table values) all = row_utf8 script utf8 values (values_stand script table values all)
bound_utf8 script utf8 catalog (tree.Update table sets test) all =
    sets_utf8 (scope_of script catalog (tree.Update table sets test)) utf8 sets
    (in_parts script (separated grammar.set_clause sets) _ (in_parts script (separated grammar.set_clause sets ++ _) _ all.1.1.1).0).0
bound_utf8 script utf8 catalog (tree.Delete table test) all = tt
bound_utf8 script utf8 catalog (tree.Select selection) all = selection_utf8 (scope_of script catalog (tree.Select selection)) selection
bound_utf8 script utf8 catalog (tree.Savepoint name) all = tt
bound_utf8 script utf8 catalog (tree.RollbackTo name) all = tt
bound_utf8 script utf8 catalog (tree.Release name) all = tt
bound_utf8 script utf8 catalog (tree.Create table columns) all = All-nil IsUtf8Value
bound_utf8 script utf8 catalog (tree.Session name) all = All-nil IsUtf8Value
bound_utf8 script utf8 catalog (tree.Begin only) all = All-nil IsUtf8Value
bound_utf8 script utf8 catalog tree.Commit all = All-nil IsUtf8Value
bound_utf8 script utf8 catalog tree.Rollback all = All-nil IsUtf8Value
bound_utf8 script utf8 catalog (tree.Schedule turns) all = All-nil IsUtf8Value
bound_utf8 script utf8 catalog tree.End all = All-nil IsUtf8Value

-- ---- a statement that is parsed

-- where statements are parsed their tokens are a sentence of the grammar
abbrev pub ParsesSentences : Type 0
ParsesSentences = (bytes : List ℕ) (at : ℕ) (s : Statement) (end : ℕ) → (parsed bytes at ≡ Ok (s, end)) ↔ Parses bytes at s end

parsed_stands : PiecesAreTokens → ParsesSentences → (script : List ℕ) (at end : ℕ) (s : Statement) → parsed script at ≡ Ok (s, end)
    → AllStandIn script (marks s)
parsed_stands tokens sentences script at end s is =
    marks_stand script _ (marks s) ((sentences script at s end).0 is).written.matches (tokens script at)

pub parsed_utf8 : PiecesAreTokens → ParsesSentences → WhatIsParsedIsUtf8
parsed_utf8 tokens sentences = record {
  rows = λ script at end table values utf8 is.
      row_utf8 script utf8 values
      (values_stand script table values (parsed_stands tokens sentences script at end (tree.Insert table values) is));
  statements = λ script at end catalog s utf8 is. bound_utf8 script utf8 catalog s (parsed_stands tokens sentences script at end s is);
}
