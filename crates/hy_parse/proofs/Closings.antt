-- A sentence has one `;`, its last piece, and the pieces of a statement have one where they are closed.
use Rattle.std.proofs.Common.{◌≡◌, ℕ, zero, suc, Bool, true, false, List, [], ◌∷◌, ◌++◌, Option, Some, None, Result, Ok, Err, refl, sym, ap, subst, ◌∙◌}
use Rattle.std.specs.Prelude.{MatchBool}
use Rattle.std.specs.List.{flat_map}
use Rattle.hy_token.specs.Token.{token_at}
use Rattle.hy_token.specs.declared.Bad.{Bad}
use Rattle.hy_token.specs.declared.Keyword.TheVariants as keyword
use Rattle.hy_token.specs.declared.Sign.TheVariants.{Semicolon, Comma}
use Rattle.hy_token.specs.declared.Span.{Span}
use Rattle.hy_token.specs.declared.Token.{Token}
use Rattle.hy_token.specs.declared.Token.TheVariants as token
use Rattle.hy_value.specs.declared.Cmp.{Cmp}
use Rattle.hy_value.specs.declared.Cmp.TheVariants as cmp
use Rattle.hy_value.specs.declared.Kind.{Kind}
use Rattle.hy_value.specs.declared.Kind.TheVariants as kinds
use Rattle.hy_ast.specs.declared.ColumnRef.{ColumnRef}
use Rattle.hy_ast.specs.declared.Join.{Join as JoinedTable}
use Rattle.hy_ast.specs.declared.Literal.{Literal}
use Rattle.hy_ast.specs.declared.Literal.TheVariants as literals
use Rattle.hy_ast.specs.declared.Operand.{Operand}
use Rattle.hy_ast.specs.declared.Operand.TheVariants as operands
use Rattle.hy_ast.specs.declared.Operator.{Operator}
use Rattle.hy_ast.specs.declared.Operator.TheVariants as operator
use Rattle.hy_ast.specs.declared.Total.{Total}
use Rattle.hy_ast.specs.declared.Total.TheVariants as totals
use Rattle.hy_ast.specs.declared.Listed.{Listed}
use Rattle.hy_ast.specs.declared.Listed.TheVariants as listing
use Rattle.hy_ast.specs.Trees.{Test, Formula, SetClause, Selection, Statement}
use Rattle.hy_ast.specs.Trees as tree
use Rattle.hy_parse.specs.declared.Piece.{Piece}
use Rattle.hy_parse.specs.declared.Ending.{Ending}
use Rattle.hy_parse.specs.Pieces.{Pieces, ended, continued, pieces_within}
use Rattle.hy_parse.specs.Grammar.{Mark, Any, At, Match, optional, separated, column, literal, operand, comparison, test, condition, operator_sign, formula, set_clause, kind, column_def, sum, listed, total, join, selection, turn, body, marks}
use Rattle.hy_parse.specs.Reading.{same, sign, word}
use Rattle.hy_parse.specs.Parsing.{IsClosed}
use Rattle.hy_parse.proofs.Readers.{token_of, marks_token, match_parts}
use Rattle.hy_parse.proofs.Choices.{same_is, same_self}

-- ---- the `;` of a sentence

abbrev pub is_end : Token → Bool
is_end t = same (sign Semicolon) t

-- no mark of these is a `;`
abbrev NoEnd : List Mark → Type 0
NoEnd [] = Unit {0}
NoEnd (m ∷ ms) = (is_end (token_of m) ≡ false) × NoEnd ms

both : (ms ns : List Mark) → NoEnd ms → NoEnd ns → NoEnd (ms ++ ns)
both [] ns first second = second
both (m ∷ ms) ns first second = (first.0, both ms ns first.1 second)

each : {A : Type 0} (write : A → List Mark) → ((x : A) → NoEnd (write x)) → (xs : List A) → NoEnd (flat_map write xs)
each write none [] = tt
each write none (x ∷ xs) = both (write x) (flat_map write xs) (none x) (each write none xs)

parted : {A : Type 0} (write : A → List Mark) → ((x : A) → NoEnd (write x)) → (xs : List A) → NoEnd (separated write xs)
parted write none [] = tt
parted write none (x ∷ xs) = both (write x) (flat_map (λ y. Any (sign Comma) ∷ write y) xs) (none x) (each (λ y. Any (sign Comma) ∷ write y) (λ y. (refl, none y)) xs)

maybe : (b : Bool) (ms : List Mark) → NoEnd ms → NoEnd (optional b ms)
maybe true ms none = none
maybe false ms none = tt

of_column : (c : ColumnRef) → NoEnd (column c)
of_column c = by_table c.table c.column
  where
    by_table : (table : Option Span) (s : Span) → NoEnd (column (record { table = table; column = s }))
    by_table None s = (refl, tt)
    by_table (Some t) s = (refl, (refl, (refl, tt)))

of_literal : (l : Literal) → NoEnd (literal l)
of_literal (literals.Null s) = (refl, tt)
of_literal (literals.Integer None d) = (refl, tt)
of_literal (literals.Integer (Some m) d) = (refl, (refl, tt))
of_literal (literals.Text s) = (refl, tt)

of_operand : (o : Operand) → NoEnd (operand o)
of_operand (operands.Column c) = of_column c
of_operand (operands.Literal l) = of_literal l

of_comparison : (op : Cmp) → is_end (sign (comparison op)) ≡ false
of_comparison cmp.Eq = refl
of_comparison _ = refl

of_operator : (op : Operator) → is_end (sign (operator_sign op)) ≡ false
of_operator operator.Plus = refl
of_operator _ = refl

of_test : (t : Test) → NoEnd (test t)
of_test (tree.Compare left op at right) = both (column left) _ (of_column left) (of_comparison op, of_operand right)
of_test (tree.IsNull c at negated) = both (column c ++ At (word keyword.Is) at ∷ optional negated (Any (word keyword.Not) ∷ [])) _ (both (column c) _ (of_column c) (refl, maybe negated _ (refl, tt))) (refl, tt)
of_test (tree.Not at inner) = (refl, of_test inner)
of_test (tree.And left at right) = both (test left) _ (of_test left) (refl, of_test right)
of_test (tree.Or left at right) = both (test left) _ (of_test left) (refl, of_test right)
of_test (tree.Nested inner) = (refl, both (test inner) _ (of_test inner) (refl, tt))

of_condition : (t : Option Test) → NoEnd (condition t)
of_condition None = tt
of_condition (Some t) = (refl, of_test t)

of_formula : (f : Formula) → NoEnd (formula f)
of_formula (tree.Plain o) = of_operand o
of_formula (tree.Binary left op at right) = both (formula left) _ (of_formula left) (of_operator op, of_formula right)
of_formula (tree.Bracket inner) = (refl, both (formula inner) _ (of_formula inner) (refl, tt))

of_kind : (k : Kind) → is_end (word (kind k)) ≡ false
of_kind kinds.Int = refl
of_kind kinds.Str = refl

of_sum : (c : ColumnRef) → NoEnd (sum c)
of_sum c = (refl, (refl, both (column c) _ (of_column c) (refl, tt)))

of_listed : (items : Listed) → NoEnd (listed items)
of_listed listing.All = (refl, tt)
of_listed (listing.Sum c) = of_sum c
of_listed (listing.Columns cs) = parted column of_column cs

of_total : (of : Total) → NoEnd (total of)
of_total totals.Count = (refl, (refl, (refl, (refl, tt))))
of_total (totals.Sum c) = of_sum c

of_join : (j : JoinedTable) → NoEnd (join j)
of_join j = (refl, (refl, (refl, both (column j.left) _ (of_column j.left) (refl, of_column j.right))))

of_selection : (s : Selection) → NoEnd (selection s)
of_selection (tree.Rows items table joins t) =
    both _ (condition t) (both _ (flat_map join joins) (both (listed items) _ (of_listed items) (refl, (refl, tt))) (each join of_join joins)) (of_condition t)
of_selection (tree.Count table t) = (refl, (refl, (refl, (refl, (refl, (refl, of_condition t))))))
of_selection (tree.Groups c of table t by) =
    both _ _ (both _ (condition t) (both _ _ (both (column c) _ (of_column c) (refl, of_total of)) (refl, (refl, tt))) (of_condition t)) (refl, (refl, of_column by))

of_body : (s : Statement) → NoEnd (body s)
of_body (tree.Create table columns) = (refl, (refl, (refl, (refl, both (separated column_def columns) _ (parted column_def (λ d. (refl, (of_kind d.kind, maybe d.key _ (refl, (refl, tt))))) columns) (refl, tt)))))
of_body (tree.Insert table values) = (refl, (refl, (refl, (refl, (refl, both (separated literal values) _ (parted literal of_literal values) (refl, tt))))))
of_body (tree.Session s) = (refl, (refl, tt))
of_body (tree.Begin only) = (refl, maybe only _ (refl, (refl, tt)))
of_body tree.Commit = (refl, tt)
of_body tree.Rollback = (refl, tt)
of_body (tree.Savepoint s) = (refl, (refl, tt))
of_body (tree.RollbackTo s) = (refl, (refl, (refl, tt)))
of_body (tree.Release s) = (refl, (refl, tt))
of_body (tree.Select s) = (refl, of_selection s)
of_body (tree.Update table sets t) = (refl, (refl, (refl, both (separated set_clause sets) _ (parted set_clause (λ set. (refl, (refl, of_formula set.value))) sets) (of_condition t))))
of_body (tree.Delete table t) = (refl, (refl, (refl, of_condition t)))
of_body (tree.Schedule turns) = (refl, each turn (λ t. (refl, maybe t.whole _ (refl, tt))) turns)
of_body tree.End = (refl, tt)

once : (ms : List Mark) → NoEnd ms → (front : List Piece) (p : Piece) (rest : List Piece) → p.token ≡ sign Semicolon → Match (front ++ p ∷ rest) (ms ++ Any (sign Semicolon) ∷ []) → rest ≡ []
once [] none [] p [] is m = refl
once [] none [] p (q ∷ rest) is m = absurd m.1
once [] none (q ∷ []) p rest is m = absurd m.1
once [] none (q ∷ r ∷ front) p rest is m = absurd m.1
once (x ∷ ms) none [] p rest is m = let both = sym (ap (same (sign Semicolon)) (sym is ∙ marks_token p x m.0)) ∙ same_self (sign Semicolon) in absurd (cc (both, none.0))
once (x ∷ ms) none (q ∷ front) p rest is m = once ms none.1 front p rest is m.1

-- nothing stands behind the `;` of a sentence
pub nothing_behind : (s : Statement) (front : List Piece) (p : Piece) (rest : List Piece) → p.token ≡ sign Semicolon → Match (front ++ p ∷ rest) (marks s) → rest ≡ []
nothing_behind s front p rest is m = once (body s) (of_body s) front p rest is m

-- a sentence ends with a `;`
pub last_is : (s : Statement) (ps : List Piece) → Match ps (marks s) → (front : List Piece) × (p : Piece) × (ps ≡ front ++ p ∷ []) × (p.token ≡ sign Semicolon)
last_is s ps m =
    let parts = match_parts ps (body s) (Any (sign Semicolon) ∷ []) m in
    let end = alone parts.back parts.second in
    (parts.front, end.0, parts.parts ∙ ap (λ (qs : List Piece). parts.front ++ qs) end.1, end.2)
  where
    alone : (qs : List Piece) → Match qs (Any (sign Semicolon) ∷ []) → (p : Piece) × (qs ≡ p ∷ []) × (p.token ≡ sign Semicolon)
    alone [] m = absurd m
    alone (p ∷ []) m = (p, refl, m.0)
    alone (p ∷ q ∷ qs) m = absurd m.1

-- ---- the `;` of the pieces of a statement

-- A `;` is the last piece, and closes the statement; without one it is not closed.
abbrev pub Tidy : List Piece → Ending → Type 0
Tidy [] ending = IsClosed ending → ⊥
Tidy (p ∷ ps) ending = MatchBool (is_end p.token) ((ps ≡ []) × IsClosed ending) (Tidy ps ending)

tidy_ended : (r : Result (Token × Span) Bad) → Tidy (ended r).pieces (ended r).ending
tidy_ended (Ok found) = λ closed. closed
tidy_ended (Err bad) = λ closed. closed

tidy_continued : (r : Result (Token × Span) Bad) (others : ℕ → Pieces) → ((next : ℕ) → Tidy (others next).pieces (others next).ending) → Tidy (continued r others).pieces (continued r others).ending
tidy_continued (Ok (token.Sign Semicolon, span)) others tidy = (refl, tt)
tidy_continued (Ok (token.End, span)) others tidy = λ closed. closed
tidy_continued (Ok (t, span)) others tidy = tidy span.end
tidy_continued (Err bad) others tidy = λ closed. closed

pub tidy : (most : ℕ) (bytes : List ℕ) (at : ℕ) → Tidy (pieces_within most bytes at).pieces (pieces_within most bytes at).ending
unfolding pieces_within
tidy zero bytes at = tidy_ended (token_at bytes at)
tidy (suc most) bytes at = tidy_continued (token_at bytes at) (λ next. pieces_within most bytes next) (λ next. tidy most bytes next)

-- a `;` among the pieces closes them
pub closes : (ending : Ending) (front : List Piece) (p : Piece) (rest : List Piece) → Tidy (front ++ p ∷ rest) ending → p.token ≡ sign Semicolon → (rest ≡ []) × IsClosed ending
closes ending [] p rest is end = subst (λ (b : Bool). MatchBool b ((rest ≡ []) × IsClosed ending) (Tidy rest ending)) (ap is_end end ∙ same_self (sign Semicolon)) is
closes ending (q ∷ front) p rest is end = by_test (is_end q.token) is (λ h. closes ending front p rest h end)
  where
    no_more : (front : List Piece) → front ++ p ∷ rest ≡ [] → ⊥
    no_more [] e = cc
    no_more (r ∷ front) e = cc

    by_test : (b : Bool) → MatchBool b ((front ++ p ∷ rest ≡ []) × IsClosed ending) (Tidy (front ++ p ∷ rest) ending) → (Tidy (front ++ p ∷ rest) ending → (rest ≡ []) × IsClosed ending) → (rest ≡ []) × IsClosed ending
    by_test true h further = absurd (no_more front h.0)
    by_test false h further = further h

-- closed pieces end with a `;`
pub closed_last : (ending : Ending) (ps : List Piece) → Tidy ps ending → IsClosed ending → (front : List Piece) × (p : Piece) × (ps ≡ front ++ p ∷ []) × (p.token ≡ sign Semicolon)
closed_last ending [] is closed = absurd (is closed)
closed_last ending (p ∷ ps) is closed = by_test (is_end p.token) refl is (λ h. closed_last ending ps h closed)
  where
    by_test : (b : Bool) → is_end p.token ≡ b → MatchBool b ((ps ≡ []) × IsClosed ending) (Tidy ps ending) → (Tidy ps ending → (front : List Piece) × (q : Piece) × (ps ≡ front ++ q ∷ []) × (q.token ≡ sign Semicolon))
        → (front : List Piece) × (q : Piece) × (p ∷ ps ≡ front ++ q ∷ []) × (q.token ≡ sign Semicolon)
    by_test true e h further = ([], p, ap (λ (qs : List Piece). p ∷ qs) h.0, sym (same_is (sign Semicolon) p.token e))
    by_test false e h further = let others = further h in (p ∷ others.0, others.1, ap (λ (qs : List Piece). p ∷ qs) others.2, others.3)
