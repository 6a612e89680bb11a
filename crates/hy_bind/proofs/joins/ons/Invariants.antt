use Rattle.std.proofs.Common.{◌≡◌, ◌+◌, ◌++◌, drop}
use Rattle.hy_bind.specs.Refusals.{first_of}
use Rattle.hy_bind.specs.Scope.{scope_of}
use Rattle.hy_bind.specs.Statements.{joins_fault, ons_bound}
use Rattle.hy_bind.proofs.joins.ons.Given as goal

-- what is left completes the refusal, and the equalities so far and those of the joins that are left are all
abbrev pub invariant-loop-i : goal.invariant-loop-i
invariant-loop-i l =
    (first_of l.fault (joins_fault (scope_of l.scope) (l.i + 2) (drop l.i l.joins)) ≡ joins_fault (scope_of l.scope) 2 l.joins)
    × (l.all.items ++ ons_bound (scope_of l.scope) (l.i + 2) (drop l.i l.joins) ≡ ons_bound (scope_of l.scope) 2 l.joins)
