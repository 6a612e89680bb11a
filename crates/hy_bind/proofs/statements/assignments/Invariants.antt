use Rattle.std.proofs.Common.{◌≡◌, drop, take, map}
use Rattle.hy_ast.specs.Trees.{set_clause_of}
use Rattle.hy_bind.specs.Refusals.{first_of}
use Rattle.hy_bind.specs.Scope.{scope_of}
use Rattle.hy_bind.specs.Statements.{set_bound, sets_fault}
use Rattle.hy_bind.proofs.statements.assignments.Given as goal

-- what is left completes the refusal, and the assignments so far are those of the clauses so far
abbrev pub invariant-loop-set : goal.invariant-loop-set
invariant-loop-set l =
    (first_of l.fault (sets_fault (scope_of l.scope) (map set_clause_of (drop l.set-index l.sets))) ≡ sets_fault (scope_of l.scope) (map set_clause_of l.sets))
    × (l.all.items ≡ map (set_bound (scope_of l.scope)) (map set_clause_of (take l.set-index l.sets)))
