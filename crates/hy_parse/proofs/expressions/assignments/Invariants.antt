use Rattle.std.proofs.Common.{◌≡◌, ◌-◌, ◌++◌, [], ◌∷◌, map}
use Rattle.hy_ast.specs.Trees.{set_clause_of}
use Rattle.hy_token.specs.declared.Sign.TheVariants.{Comma}
use Rattle.hy_parse.specs.Reading.{sign, span_of, links_within, items_at, set_clause_at}
use Rattle.hy_parse.proofs.expressions.assignments.Given as goal

abbrev pub invariant-loop : goal.invariant-loop
invariant-loop l =
    links_within (span_of (sign Comma)) (λ items _ item. items ++ item ∷ []) set_clause_at (l.end - l.counter) (map set_clause_of l.sets) l.rest ≡ items_at [] set_clause_at l.pieces
