use Rattle.std.proofs.Common.{◌≡◌, ◌+◌, ◌-◌, ◌*◌}
use Rattle.hy_ast.specs.Trees.{formula_of, Binary}
use Rattle.hy_ast.specs.declared.Operator.TheVariants.{Times}
use Rattle.hy_token.specs.declared.Sign.TheVariants.{Star}
use Rattle.hy_parse.specs.Reading.{sign, span_of, addition, links_within, factor_at, term_by, formula_at}
use Rattle.hy_parse.proofs.expressions.+expression.Given as goal

-- an expression has chains of `*`, and these have factors, in which fewer levels are left
abbrev pub decreases-expression : goal.decreases-expression
decreases-expression l = 3 * l.levels + 2

abbrev pub decreases-term : goal.decreases-term
decreases-term l = 3 * l.levels + 1

abbrev pub decreases-factor : goal.decreases-factor
decreases-factor l = 3 * l.levels

abbrev pub invariant-expression-loop : goal.invariant-expression-loop
invariant-expression-loop l =
    links_within addition (λ left op right. Binary left op.0 op.1 right) (term_by (factor_at l.levels)) (l.end - l.counter) (formula_of l.left) l.rest ≡ formula_at l.levels l.pieces

abbrev pub invariant-term-loop : goal.invariant-term-loop
invariant-term-loop l =
    links_within (span_of (sign Star)) (λ left at right. Binary left Times at right) (factor_at l.levels) (l.end - l.counter) (formula_of l.left) l.rest ≡ term_by (factor_at l.levels) l.pieces
