-- The rules of conditions: what is read by each is what is written by it.
use Rattle.std.proofs.Common.{◌≡◌, ℕ, zero, suc, ◌≤◌, Bool, true, false, List, [], ◌∷◌, ◌++◌, Option, Some, None, inl, inr, refl, sym, ap, subst, ◌∙◌, arith, append_assoc}
use Rattle.std.specs.Prelude.{◌||◌, MatchOption}
use Rattle.std.specs.Option.{option_map}
use Rattle.std.proofs.lemmas.Option.{same_Some}
use Rattle.hy_token.specs.declared.Keyword.TheVariants as keyword
use Rattle.hy_token.specs.declared.Sign.TheVariants.{LeftParen, RightParen, Equal, NotEqual, Less, LessEqual, Greater, GreaterEqual}
use Rattle.hy_token.specs.declared.Span.{Span}
use Rattle.hy_token.specs.declared.Token.{Token}
use Rattle.hy_token.specs.declared.Token.TheVariants as token
use Rattle.hy_value.specs.declared.Cmp.{Cmp}
use Rattle.hy_value.specs.declared.Cmp.TheVariants as cmp
use Rattle.hy_ast.specs.Trees.{Test, Compare, IsNull, Not, And, Or, Nested}
use Rattle.hy_parse.specs.declared.Piece.{Piece}
use Rattle.hy_parse.specs.Grammar.{Mark, Any, At, Marks, column, comparison, optional, test, IsConjunction, IsUnit, IsGroupedTest, test_levels, condition, IsGroupedCondition, condition_levels}
use Rattle.hy_parse.specs.Reading.{Read, same, sign, word, span_of, cmp_of, comparison_of, is_null_at, compared_at, comparison_at, unit_at, conjunction_by, test_by, test_at, condition_at}
use Rattle.hy_parse.proofs.Readers.{Reads, Always, Covers, HeadStops, head_of, then_read, then_last, widen, recast, finish, piece_reads}
use Rattle.hy_parse.proofs.Choices.{span_reads, then_one, then_fixed, choice_reads}
use Rattle.hy_parse.proofs.Chains.{Spine, spine_first, spine_step, at_joins, chain_reads}
use Rattle.hy_parse.proofs.OperandRules.{anything, by_parts, flag_reads, dot, column_reads, column_head, operand_reads}
use Rattle.hy_limits.specs.declared.TheConstants.{MOST_LEVELS}

-- ---- comparisons

pub option_map_some : {A B : Type 0} (f : A → B) (o : Option A) (b : B) → option_map f o ≡ Some b → (a : A) × (o ≡ Some a) × (f a ≡ b)
option_map_some f None b e = absurd cc
option_map_some f (Some a) b e = (a, refl, same_Some _ _ e)

compares : (t : Token) (op : Cmp) → cmp_of t ≡ Some op → t ≡ sign (comparison op)
compares (token.Sign Equal) op e = ap (λ (c : Cmp). sign (comparison c)) (same_Some _ _ e)
compares (token.Sign NotEqual) op e = ap (λ (c : Cmp). sign (comparison c)) (same_Some _ _ e)
compares (token.Sign Less) op e = ap (λ (c : Cmp). sign (comparison c)) (same_Some _ _ e)
compares (token.Sign LessEqual) op e = ap (λ (c : Cmp). sign (comparison c)) (same_Some _ _ e)
compares (token.Sign Greater) op e = ap (λ (c : Cmp). sign (comparison c)) (same_Some _ _ e)
compares (token.Sign GreaterEqual) op e = ap (λ (c : Cmp). sign (comparison c)) (same_Some _ _ e)
compares _ op e = absurd cc

abbrev compared : Cmp × Span → Mark
compared f = At (sign (comparison f.0)) f.1

compared_sound : (p : Piece) (a : Cmp × Span) → comparison_of p ≡ Some a → (f : Cmp × Span) × Always f × (a ≡ f) × Marks p (compared f)
compared_sound p a e =
    let s = option_map_some (λ (op : Cmp). (op, p.span)) (cmp_of p.token) a e in
    let named : Token → Piece = λ t. record { token = t; span = p.span } in
    let f : Cmp × Span = (s.0, p.span) in
    (f, tt, sym s.2, ap named (compares p.token s.0 s.1))

compared_complete : (p : Piece) (f : Cmp × Span) → Always f → Marks p (compared f) → comparison_of p ≡ Some f
compared_complete p f fits is = ap comparison_of is ∙ again f.0 f.1
  where
    again : (op : Cmp) (s : Span) → comparison_of (record { token = sign (comparison op); span = s }) ≡ Some (op, s)
    again cmp.Eq s = refl
    again _ s = refl

no_dot : (op : Cmp) → dot (sign (comparison op)) ≡ false
no_dot cmp.Eq = refl
no_dot _ = refl

no_is : (op : Cmp) → same (word keyword.Is) (sign (comparison op)) ≡ false
no_is cmp.Eq = refl
no_is _ = refl

abbrev IsComparison : Test → Type 0
IsComparison (Compare left op at right) = Unit {0}
IsComparison (IsNull c at negated) = Unit {0}
IsComparison _ = ⊥

pub comparison_reads : Reads comparison_at test (λ t. t) IsComparison dot
unfolding comparison_at is_null_at compared_at
comparison_reads =
    recast test (λ t. t) IsComparison
    (then_read _ column_reads (λ c fits. choice_reads (word keyword.Is)
    (widen dot (anything dot) (then_one _ (span_reads (word keyword.Is)) (λ at fits'. then_read _ (flag_reads (word keyword.Not) []) (λ negated fits''. then_fixed (word keyword.Null ∷ []) _ (finish (IsNull c at negated))) (λ negated u f g. refl))))
    (then_one _ (piece_reads comparison_of compared (λ f. f) Always compared_sound compared_complete ((cmp.Eq, record { start = 0; end = 0 }), tt)) (λ f fits'. then_last operand_reads (λ right. Compare c f.0 f.1 right)))
    (λ f fits'. refl) (λ g fits'. no_is g.0.0))
    (λ c. elim [ inl f ↦ λ fits fits'. refl | inr g ↦ λ fits fits'. no_dot g.0.0 ]))
    (by_parts _ (λ c. elim [
      | inl f ↦ λ fits. (IsNull c f.0 f.1.0, tt, refl, sym (append_assoc (column c) (At (word keyword.Is) f.0 ∷ optional f.1.0 (Any (word keyword.Not) ∷ [])) (Any (word keyword.Null) ∷ [])))
      | inr g ↦ λ fits. (Compare c g.0.0 g.0.1 g.1, tt, refl, refl)
    ]))
    (elim [
      | IsNull c at negated ↦ λ fits. ((c, inl (at, (negated, tt))), (tt, (tt, (tt, tt))), refl, sym (append_assoc (column c) (At (word keyword.Is) at ∷ optional negated (Any (word keyword.Not) ∷ [])) (Any (word keyword.Null) ∷ [])))
      | Compare left op at right ↦ λ fits. ((left, inr ((op, at), right)), (tt, (tt, tt)), refl, refl)
      | Not at inner ↦ λ fits. absurd fits
      | And left at right ↦ λ fits. absurd fits
      | Or left at right ↦ λ fits. absurd fits
      | Nested inner ↦ λ fits. absurd fits
    ])

-- ---- chains

pub either_stops : (a b : Bool) → (a || b) ≡ false → (a ≡ false) × (b ≡ false)
either_stops true b e = absurd cc
either_stops false b e = (refl, e)

-- with what a chain of AND goes on, and one of OR
abbrev pub goes_and : Token → Bool
goes_and t = same (word keyword.And) t || dot t

abbrev pub goes_or : Token → Bool
goes_or t = same (word keyword.Or) t || goes_and t

pub record UnitFits (levels : ℕ) (t : Test) : Type 0 where
  pub unit : IsUnit t
  pub grouped : IsGroupedTest t
  pub within : test_levels t ≤ levels

pub record ConjunctionFits (levels : ℕ) (t : Test) : Type 0 where
  pub conjunction : IsConjunction t
  pub grouped : IsGroupedTest t
  pub within : test_levels t ≤ levels

pub record TestFits (levels : ℕ) (t : Test) : Type 0 where
  pub grouped : IsGroupedTest t
  pub within : test_levels t ≤ levels

conjunction_of_unit : (t : Test) → IsUnit t → IsConjunction t
conjunction_of_unit (Or left at right) unit = unit
conjunction_of_unit _ unit = tt

module _ (levels : ℕ) where
  unit_grows : (t : Test) → UnitFits levels t → ConjunctionFits levels t
  unit_grows t fits = record { conjunction = conjunction_of_unit t fits.unit; grouped = fits.grouped; within = fits.within }

  and_grows : (left : Test) (at : Span) (right : Test) → ConjunctionFits levels left → UnitFits levels right → ConjunctionFits levels (And left at right)
  and_grows left at right l r = record { conjunction = tt; grouped = (l.conjunction, r.unit, l.grouped, r.grouped); within = omega (arith, l.within, r.within) }

  and_spine : (t : Test) → ConjunctionFits levels t → Spine (λ left at right. And left at right) (UnitFits levels) t
  and_spine (And left at right) fits =
      spine_step (λ left at right. And left at right) (UnitFits levels) left at right
      (and_spine left (record { conjunction = fits.grouped.0; grouped = fits.grouped.2; within = omega (arith, fits.within) })) (record { unit = fits.grouped.1; grouped = fits.grouped.3; within = omega (arith, fits.within) })
  and_spine (Or left at right) fits = absurd fits.conjunction
  and_spine t fits = spine_first (λ left at right. And left at right) (UnitFits levels) t (record { unit = tt; grouped = fits.grouped; within = fits.within })

  conjunction_grows : (t : Test) → ConjunctionFits levels t → TestFits levels t
  conjunction_grows t fits = record { grouped = fits.grouped; within = fits.within }

  or_grows : (left : Test) (at : Span) (right : Test) → TestFits levels left → ConjunctionFits levels right → TestFits levels (Or left at right)
  or_grows left at right l r = record { grouped = (r.conjunction, l.grouped, r.grouped); within = omega (arith, l.within, r.within) }

  or_spine : (t : Test) → TestFits levels t → Spine (λ left at right. Or left at right) (ConjunctionFits levels) t
  or_spine (Or left at right) fits =
      spine_step (λ left at right. Or left at right) (ConjunctionFits levels) left at right
      (or_spine left (record { grouped = fits.grouped.1; within = omega (arith, fits.within) })) (record { conjunction = fits.grouped.0; grouped = fits.grouped.2; within = omega (arith, fits.within) })
  or_spine t fits = spine_first (λ left at right. Or left at right) (ConjunctionFits levels) t (record { conjunction = tt; grouped = fits.grouped; within = fits.within })

  module _ (unit : List Piece → Read Test) (unit_reads : Reads unit test (λ t. t) (UnitFits levels) dot) where
    conjunction_reads : Reads (conjunction_by unit) test (λ t. t) (ConjunctionFits levels) goes_and
    unfolding conjunction_by
    conjunction_reads =
        chain_reads (span_of (word keyword.And)) (λ left at right. And left at right) (λ s. At (word keyword.And) s) (λ left at right. And left at right) (same (word keyword.And)) (at_joins (word keyword.And) (λ left at right. And left at right))
        unit test (UnitFits levels) (ConjunctionFits levels) dot goes_and unit_reads (λ t e. (either_stops _ _ e).1) (λ t e. (either_stops _ _ e).0) (λ s. refl) (λ left at right. refl) unit_grows and_grows and_spine

    test_reads_by : Reads (test_by unit) test (λ t. t) (TestFits levels) goes_or
    unfolding test_by
    test_reads_by =
        chain_reads (span_of (word keyword.Or)) (λ left at right. Or left at right) (λ s. At (word keyword.Or) s) (λ left at right. Or left at right) (same (word keyword.Or)) (at_joins (word keyword.Or) (λ left at right. Or left at right))
        (conjunction_by unit) test (ConjunctionFits levels) (TestFits levels) goes_and goes_or conjunction_reads (λ t e. (either_stops _ _ e).1) (λ t e. (either_stops _ _ e).0) (λ s. refl) (λ left at right. refl) conjunction_grows or_grows or_spine

-- ---- units

pub head_append : (ms ns : List Mark) (t : Token) → head_of ms ≡ Some t → head_of (ms ++ ns) ≡ Some t
head_append [] ns t is = absurd cc
head_append (m ∷ ms) ns t is = is

pub head_is : (goes_on behind : Token → Bool) (ms : List Mark) (t : Token) → head_of ms ≡ Some t → goes_on t ≡ false → HeadStops goes_on behind ms
head_is goes_on behind ms t is stops = subst (λ (o : Option Token). MatchOption o (Covers behind goes_on) (λ token. goes_on token ≡ false)) (sym is) stops

comparison_head : (t : Test) → IsComparison t → head_of (test t) ≡ Some token.Name
comparison_head (Compare left op at right) fits = head_append (column left) _ token.Name (column_head left)
comparison_head (IsNull c at negated) fits = head_append (column c ++ At (word keyword.Is) at ∷ optional negated (Any (word keyword.Not) ∷ [])) _ token.Name (head_append (column c) _ token.Name (column_head c))
comparison_head (Not at inner) fits = absurd fits
comparison_head (And left at right) fits = absurd fits
comparison_head (Or left at right) fits = absurd fits
comparison_head (Nested inner) fits = absurd fits

comparison_is : (levels : ℕ) (t : Test) → IsComparison t → UnitFits levels t
comparison_is levels (Compare left op at right) fits = record { unit = tt; grouped = tt; within = omega arith }
comparison_is levels (IsNull c at negated) fits = record { unit = tt; grouped = tt; within = omega arith }
comparison_is levels (Not at inner) fits = absurd fits
comparison_is levels (And left at right) fits = absurd fits
comparison_is levels (Or left at right) fits = absurd fits
comparison_is levels (Nested inner) fits = absurd fits

flat : (t : Test) → UnitFits 0 t → IsComparison t
flat (Compare left op at right) fits = tt
flat (IsNull c at negated) fits = tt
flat (Not at inner) fits = absurd (omega (arith, fits.within))
flat (And left at right) fits = absurd fits.unit
flat (Or left at right) fits = absurd fits.unit
flat (Nested inner) fits = absurd (omega (arith, fits.within))

pub unit_reads : (levels : ℕ) → Reads (unit_at levels) test (λ t. t) (UnitFits levels) dot
unfolding unit_at
unit_reads zero = recast test (λ t. t) (UnitFits 0) comparison_reads (λ t fits. (t, comparison_is 0 t fits, refl, refl)) (λ t fits. (t, flat t fits, refl, refl))
unit_reads (suc levels) =
    recast test (λ t. t) (UnitFits (suc levels))
    (choice_reads (word keyword.Not)
    (then_one _ (span_reads (word keyword.Not)) (λ at fits. then_last (unit_reads levels) (λ inner. Not at inner)))
    (choice_reads (sign LeftParen)
    (widen dot (anything dot) (then_fixed (sign LeftParen ∷ []) _ (then_read _ (test_reads_by levels (unit_at levels) (unit_reads levels)) (λ inner fits. then_fixed (sign RightParen ∷ []) _ (finish (Nested inner))) (λ inner u f g. refl))))
    comparison_reads (λ f fits. refl) (λ t fits. head_is (same (sign LeftParen)) dot (test t) token.Name (comparison_head t fits) refl))
    (λ f fits. refl) (elim [ inl f ↦ λ fits. refl | inr t ↦ λ fits. head_is (same (word keyword.Not)) dot (test t) token.Name (comparison_head t fits) refl ]))
    (elim [
      | inl f ↦ λ fits. (Not f.0 f.1, record { unit = tt; grouped = (fits.1.unit, fits.1.grouped); within = omega (arith, fits.1.within) }, refl, refl)
      | inr (inl f) ↦ λ fits. (Nested f.0, record { unit = tt; grouped = fits.0.grouped; within = omega (arith, fits.0.within) }, refl, refl)
      | inr (inr t) ↦ λ fits. (t, comparison_is (suc levels) t fits, refl, refl)
    ])
    (elim [
      | Compare left op at right ↦ λ fits. (inr (inr (Compare left op at right)), tt, refl, refl)
      | IsNull c at negated ↦ λ fits. (inr (inr (IsNull c at negated)), tt, refl, refl)
      | Not at inner ↦ λ fits. (inl (at, inner), (tt, record { unit = fits.grouped.0; grouped = fits.grouped.1; within = omega (arith, fits.within) }), refl, refl)
      | And left at right ↦ λ fits. absurd fits.unit
      | Or left at right ↦ λ fits. absurd fits.unit
      | Nested inner ↦ λ fits. (inr (inl (inner, tt)), (record { grouped = fits.grouped; within = omega (arith, fits.within) }, tt), refl, refl)
    ])

pub test_reads : (levels : ℕ) → Reads (test_at levels) test (λ t. t) (TestFits levels) goes_or
test_reads levels = test_reads_by levels (unit_at levels) (unit_reads levels)

-- ---- WHERE

abbrev pub goes_where : Token → Bool
goes_where t = same (word keyword.Where) t || goes_or t

pub record ConditionFits (t : Option Test) : Type 0 where
  pub grouped : IsGroupedCondition t
  pub within : condition_levels t ≤ MOST_LEVELS

pub condition_reads : Reads condition_at condition (λ t. t) ConditionFits goes_where
unfolding condition_at
condition_reads =
    recast condition (λ t. t) ConditionFits
    (choice_reads (word keyword.Where) (widen goes_where (λ t e. (either_stops _ _ e).1) (then_fixed (word keyword.Where ∷ []) _ (then_last (test_reads MOST_LEVELS) (λ t. Some t)))) (widen goes_where (anything goes_where) (finish None)) (λ f fits. refl) (λ u fits t e. (either_stops _ _ e).0))
    (elim [ inl t ↦ λ fits. (Some t, record { grouped = fits.grouped; within = fits.within }, refl, refl) | inr u ↦ λ fits. (None, record { grouped = tt; within = omega arith }, refl, refl) ])
    (elim [ Some t ↦ λ fits. (inl t, record { grouped = fits.grouped; within = fits.within }, refl, refl) | None ↦ λ fits. (inr tt, tt, refl, refl) ])
