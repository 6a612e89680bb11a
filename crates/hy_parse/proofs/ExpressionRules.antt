-- The rules of expressions and assignments: what is read by each is what is written by it.
use Rattle.std.proofs.Common.{◌≡◌, ℕ, zero, suc, ◌≤◌, Bool, true, false, List, [], ◌∷◌, Some, None, inl, inr, refl, sym, ap, ◌∙◌, arith}
use Rattle.std.specs.Prelude.{◌||◌}
use Rattle.std.specs.Option.{option_map}
use Rattle.std.proofs.lemmas.Option.{same_Some}
use Rattle.hy_token.specs.declared.Sign.TheVariants.{LeftParen, RightParen, Star, Plus, Minus, Equal}
use Rattle.hy_token.specs.declared.Span.{Span}
use Rattle.hy_token.specs.declared.Token.{Token}
use Rattle.hy_token.specs.declared.Token.TheVariants as token
use Rattle.hy_ast.specs.declared.Operand.TheVariants as operands
use Rattle.hy_ast.specs.declared.Literal.TheVariants as literals
use Rattle.hy_ast.specs.declared.Operator.{Operator}
use Rattle.hy_ast.specs.declared.Operator.TheVariants as operator
use Rattle.hy_ast.specs.Trees.{Formula, Plain, Binary, Bracket, SetClause}
use Rattle.hy_parse.specs.declared.Piece.{Piece}
use Rattle.hy_parse.specs.Grammar.{Mark, At, operator_sign, formula, IsTerm, IsFactor, IsGroupedFormula, formula_levels, set_clause}
use Rattle.hy_parse.specs.Reading.{Read, same, sign, span_of, addition_of, addition, plain_at, factor_at, term_by, formula_by, formula_at, set_clause_at}
use Rattle.hy_parse.proofs.Readers.{Reads, HeadStops, then_read, then_last, widen, recast, finish}
use Rattle.hy_parse.proofs.Choices.{then_one, then_fixed, choice_reads}
use Rattle.hy_parse.proofs.Links.{Joins}
use Rattle.hy_parse.proofs.Chains.{Spine, spine_first, spine_step, at_joins, chain_reads}
use Rattle.hy_parse.proofs.OperandRules.{anything, by_parts, dot, name_reads, column_head, operand_reads}
use Rattle.hy_parse.proofs.ConditionRules.{either_stops, head_is, option_map_some}
use Rattle.hy_limits.specs.declared.TheConstants.{MOST_LEVELS}

-- ---- `+` and `-`

-- which of the two
abbrev added : Bool → Operator
added true = operator.Plus
added false = operator.Minus

abbrev added_mark : Bool × Span → Mark
added_mark o = At (sign (operator_sign (added o.0))) o.1

abbrev added_step : Formula → Bool × Span → Formula → Formula
added_step left o right = Binary left (added o.0) o.1 right

abbrev goes_added : Token → Bool
goes_added t = same (sign Plus) t || same (sign Minus) t

adds : (t : Token) (op : Operator) → addition_of t ≡ Some op → (b : Bool) × (t ≡ sign (operator_sign (added b))) × (op ≡ added b)
adds (token.Sign Plus) op e = (true, refl, sym (same_Some _ _ e))
adds (token.Sign Minus) op e = (false, refl, sym (same_Some _ _ e))
adds _ op e = absurd cc

adds_nothing : (t : Token) → goes_added t ≡ false → addition_of t ≡ None
adds_nothing (token.Sign Plus) e = absurd cc
adds_nothing (token.Sign Minus) e = absurd cc
adds_nothing _ e = refl

added_again : (b : Bool) (s : Span) → addition (record { token = sign (operator_sign (added b)); span = s }) ≡ Some (added b, s)
added_again true s = refl
added_again false s = refl

addition_joins : Joins addition (λ left op right. Binary left op.0 op.1 right) added_mark added_step goes_added
addition_joins = record {
  sound = λ p b e. (
      let s = option_map_some (λ (op : Operator). (op, p.span)) (addition_of p.token) b e in
      let t = adds p.token s.0 s.1 in
      let named : Token → Piece = λ token. record { token = token; span = p.span } in
      let same : b ≡ (added t.0, p.span) = sym s.2 ∙ ap (λ (op : Operator). (op, p.span)) t.2 in
      ((t.0, p.span), ap named t.1, λ left right. ap (λ (op : Operator × Span). Binary left op.0 op.1 right) same));
  complete = λ p o is. ((added o.0, o.1), ap addition is ∙ added_again o.0 o.1, λ left right. refl);
  others = λ p e. ap (option_map (λ op. (op, p.span))) (adds_nothing p.token e);
}

-- ---- chains

abbrev goes_times : Token → Bool
goes_times t = same (sign Star) t || dot t

-- with what an expression goes on
abbrev pub goes_formula : Token → Bool
goes_formula t = goes_added t || goes_times t

record FactorFits (levels : ℕ) (f : Formula) : Type 0 where
  factor : IsFactor f
  grouped : IsGroupedFormula f
  within : formula_levels f ≤ levels

record TermFits (levels : ℕ) (f : Formula) : Type 0 where
  term : IsTerm f
  grouped : IsGroupedFormula f
  within : formula_levels f ≤ levels

pub record FormulaFits (levels : ℕ) (f : Formula) : Type 0 where
  pub grouped : IsGroupedFormula f
  pub within : formula_levels f ≤ levels

term_of_factor : (f : Formula) → IsFactor f → IsTerm f
term_of_factor (Plain o) factor = tt
term_of_factor (Binary left op at right) factor = absurd factor
term_of_factor (Bracket inner) factor = tt

module _ (levels : ℕ) where
  factor_grows : (f : Formula) → FactorFits levels f → TermFits levels f
  factor_grows f fits = record { term = term_of_factor f fits.factor; grouped = fits.grouped; within = fits.within }

  times_grows : (left : Formula) (at : Span) (right : Formula) → TermFits levels left → FactorFits levels right → TermFits levels (Binary left operator.Times at right)
  times_grows left at right l r = record { term = tt; grouped = ((l.term, r.factor), l.grouped, r.grouped); within = omega (arith, l.within, r.within) }

  times_spine : (f : Formula) → TermFits levels f → Spine (λ left at right. Binary left operator.Times at right) (FactorFits levels) f
  times_spine (Binary left operator.Times at right) fits =
      spine_step (λ left at right. Binary left operator.Times at right) (FactorFits levels) left at right
      (times_spine left (record { term = fits.grouped.0.0; grouped = fits.grouped.1; within = omega (arith, fits.within) })) (record { factor = fits.grouped.0.1; grouped = fits.grouped.2; within = omega (arith, fits.within) })
  times_spine (Binary left operator.Plus at right) fits = absurd fits.term
  times_spine (Binary left operator.Minus at right) fits = absurd fits.term
  times_spine (Plain o) fits = spine_first (λ left at right. Binary left operator.Times at right) (FactorFits levels) (Plain o) (record { factor = tt; grouped = fits.grouped; within = fits.within })
  times_spine (Bracket inner) fits = spine_first (λ left at right. Binary left operator.Times at right) (FactorFits levels) (Bracket inner) (record { factor = tt; grouped = fits.grouped; within = fits.within })

  term_grows : (f : Formula) → TermFits levels f → FormulaFits levels f
  term_grows f fits = record { grouped = fits.grouped; within = fits.within }

  added_grows : (left : Formula) (o : Bool × Span) (right : Formula) → FormulaFits levels left → TermFits levels right → FormulaFits levels (added_step left o right)
  added_grows left o right l r = by_sign o.0 o.1
    where
      by_sign : (b : Bool) (s : Span) → FormulaFits levels (added_step left (b, s) right)
      by_sign true s = record { grouped = (r.term, l.grouped, r.grouped); within = omega (arith, l.within, r.within) }
      by_sign false s = record { grouped = (r.term, l.grouped, r.grouped); within = omega (arith, l.within, r.within) }

  added_spine : (f : Formula) → FormulaFits levels f → Spine added_step (TermFits levels) f
  added_spine (Binary left operator.Plus at right) fits =
      spine_step added_step (TermFits levels) left (true, at) right
      (added_spine left (record { grouped = fits.grouped.1; within = omega (arith, fits.within) })) (record { term = fits.grouped.0; grouped = fits.grouped.2; within = omega (arith, fits.within) })
  added_spine (Binary left operator.Minus at right) fits =
      spine_step added_step (TermFits levels) left (false, at) right
      (added_spine left (record { grouped = fits.grouped.1; within = omega (arith, fits.within) })) (record { term = fits.grouped.0; grouped = fits.grouped.2; within = omega (arith, fits.within) })
  added_spine (Binary left operator.Times at right) fits = spine_first added_step (TermFits levels) (Binary left operator.Times at right) (record { term = tt; grouped = fits.grouped; within = fits.within })
  added_spine (Plain o) fits = spine_first added_step (TermFits levels) (Plain o) (record { term = tt; grouped = fits.grouped; within = fits.within })
  added_spine (Bracket inner) fits = spine_first added_step (TermFits levels) (Bracket inner) (record { term = tt; grouped = fits.grouped; within = fits.within })

  module _ (factor : List Piece → Read Formula) (factor_reads : Reads factor formula (λ f. f) (FactorFits levels) dot) where
    term_reads : Reads (term_by factor) formula (λ f. f) (TermFits levels) goes_times
    unfolding term_by
    term_reads =
        chain_reads (span_of (sign Star)) (λ left at right. Binary left operator.Times at right) (λ s. At (sign Star) s) (λ left at right. Binary left operator.Times at right) (same (sign Star)) (at_joins (sign Star) (λ left at right. Binary left operator.Times at right))
        factor formula (FactorFits levels) (TermFits levels) dot goes_times factor_reads (λ t e. (either_stops _ _ e).1) (λ t e. (either_stops _ _ e).0) (λ s. refl) (λ left at right. refl) factor_grows times_grows times_spine

    formula_reads_by : Reads (formula_by factor) formula (λ f. f) (FormulaFits levels) goes_formula
    unfolding formula_by
    formula_reads_by =
        chain_reads addition (λ left op right. Binary left op.0 op.1 right) added_mark added_step goes_added addition_joins
        (term_by factor) formula (TermFits levels) (FormulaFits levels) goes_times goes_formula term_reads (λ t e. (either_stops _ _ e).1) (λ t e. (either_stops _ _ e).0) (by_parts _ (elim [ true ↦ λ s. refl | false ↦ λ s. refl ])) (λ left o right. refl) term_grows added_grows added_spine

-- ---- factors

abbrev IsPlain : Formula → Type 0
IsPlain (Plain o) = Unit {0}
IsPlain _ = ⊥

plain_reads : Reads plain_at formula (λ f. f) IsPlain dot
unfolding plain_at
plain_reads =
    recast formula (λ f. f) IsPlain (then_last operand_reads (λ o. Plain o)) (λ o fits. (Plain o, tt, refl, refl))
    (elim [ Plain o ↦ λ fits. (o, tt, refl, refl) | Binary left op at right ↦ λ fits. absurd fits | Bracket inner ↦ λ fits. absurd fits ])

no_paren : (f : Formula) → IsPlain f → HeadStops (same (sign LeftParen)) dot (formula f)
no_paren (Plain (operands.Column c)) fits = head_is (same (sign LeftParen)) dot _ token.Name (column_head c) refl
no_paren (Plain (operands.Literal (literals.Null s))) fits = refl
no_paren (Plain (operands.Literal (literals.Integer None d))) fits = refl
no_paren (Plain (operands.Literal (literals.Integer (Some m) d))) fits = refl
no_paren (Plain (operands.Literal (literals.Text s))) fits = refl
no_paren (Binary left op at right) fits = absurd fits
no_paren (Bracket inner) fits = absurd fits

plain_is : (levels : ℕ) (f : Formula) → IsPlain f → FactorFits levels f
plain_is levels (Plain o) fits = record { factor = tt; grouped = tt; within = omega arith }
plain_is levels (Binary left op at right) fits = absurd fits
plain_is levels (Bracket inner) fits = absurd fits

flat : (f : Formula) → FactorFits 0 f → IsPlain f
flat (Plain o) fits = tt
flat (Binary left op at right) fits = absurd fits.factor
flat (Bracket inner) fits = absurd (omega (arith, fits.within))

factor_reads : (levels : ℕ) → Reads (factor_at levels) formula (λ f. f) (FactorFits levels) dot
unfolding factor_at
factor_reads zero = recast formula (λ f. f) (FactorFits 0) plain_reads (λ f fits. (f, plain_is 0 f fits, refl, refl)) (λ f fits. (f, flat f fits, refl, refl))
factor_reads (suc levels) =
    recast formula (λ f. f) (FactorFits (suc levels))
    (choice_reads (sign LeftParen)
    (widen dot (anything dot) (then_fixed (sign LeftParen ∷ []) _ (then_read _ (formula_reads_by levels (factor_at levels) (factor_reads levels)) (λ inner fits. then_fixed (sign RightParen ∷ []) _ (finish (Bracket inner))) (λ inner u f g. refl))))
    plain_reads (λ f fits. refl) no_paren)
    (elim [
      | inl f ↦ λ fits. (Bracket f.0, record { factor = tt; grouped = fits.0.grouped; within = omega (arith, fits.0.within) }, refl, refl)
      | inr f ↦ λ fits. (f, plain_is (suc levels) f fits, refl, refl)
    ])
    (elim [
      | Plain o ↦ λ fits. (inr (Plain o), tt, refl, refl)
      | Binary left op at right ↦ λ fits. absurd fits.factor
      | Bracket inner ↦ λ fits. (inl (inner, tt), (record { grouped = fits.grouped; within = omega (arith, fits.within) }, tt), refl, refl)
    ])

formula_reads : (levels : ℕ) → Reads (formula_at levels) formula (λ f. f) (FormulaFits levels) goes_formula
formula_reads levels = formula_reads_by levels (factor_at levels) (factor_reads levels)

-- ---- assignments

abbrev pub SetClauseFits : SetClause → Type 0
SetClauseFits set = FormulaFits MOST_LEVELS set.value

pub set_clause_reads : Reads set_clause_at set_clause (λ set. set) SetClauseFits goes_formula
unfolding set_clause_at
set_clause_reads =
    recast set_clause (λ set. set) SetClauseFits
    (then_one _ name_reads (λ column fits. then_fixed (sign Equal ∷ []) _ (then_last (formula_reads MOST_LEVELS) (λ value. record { column = column; value = value }))))
    (λ f fits. (record { column = f.0; value = f.1 }, fits.1, refl, refl))
    (λ set fits. ((set.column, set.value), (tt, fits), refl, refl))
