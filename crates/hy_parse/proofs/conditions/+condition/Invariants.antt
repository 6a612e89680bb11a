use Rattle.std.proofs.Common.{◌≡◌, ◌+◌, ◌-◌, ◌*◌}
use Rattle.hy_ast.specs.Trees.{test_of, And, Or}
use Rattle.hy_token.specs.declared.Keyword.TheVariants as keyword
use Rattle.hy_parse.specs.Reading.{word, span_of, links_within, unit_at, conjunction_by, test_at}
use Rattle.hy_parse.proofs.conditions.+condition.Given as goal

-- a condition has chains of AND, and these have units, in which fewer levels are left
abbrev pub decreases-condition : goal.decreases-condition
decreases-condition l = 3 * l.levels + 2

abbrev pub decreases-conjunction : goal.decreases-conjunction
decreases-conjunction l = 3 * l.levels + 1

abbrev pub decreases-unit : goal.decreases-unit
decreases-unit l = 3 * l.levels

abbrev pub invariant-condition-loop : goal.invariant-condition-loop
invariant-condition-loop l =
    links_within (span_of (word keyword.Or)) (λ left at right. Or left at right) (conjunction_by (unit_at l.levels)) (l.end - l.counter) (test_of l.left) l.rest ≡ test_at l.levels l.pieces

abbrev pub invariant-conjunction-loop : goal.invariant-conjunction-loop
invariant-conjunction-loop l =
    links_within (span_of (word keyword.And)) (λ left at right. And left at right) (unit_at l.levels) (l.end - l.counter) (test_of l.left) l.rest ≡ conjunction_by (unit_at l.levels) l.pieces
