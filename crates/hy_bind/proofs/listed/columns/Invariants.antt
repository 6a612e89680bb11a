use Rattle.std.proofs.Common.{◌≡◌, drop, take, map}
use Rattle.hy_bind.specs.Refusals.{first_of}
use Rattle.hy_bind.specs.Scope.{scope_of, column_of}
use Rattle.hy_bind.specs.Statements.{columns_fault}
use Rattle.hy_bind.proofs.listed.columns.Given as goal

-- what is left completes the refusal, and the numbers so far are those of the references so far
abbrev pub invariant-loop-reference : goal.invariant-loop-reference
invariant-loop-reference l =
    (first_of l.fault (columns_fault (scope_of l.scope) (drop l.reference-index l.references)) ≡ columns_fault (scope_of l.scope) l.references)
    × (l.numbers.items ≡ map (column_of (scope_of l.scope)) (take l.reference-index l.references))
