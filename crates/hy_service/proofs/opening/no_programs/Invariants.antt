use Rattle.std.specs.Prelude.{replicate}
use Rattle.std.proofs.Common.{◌≡◌, List, []}
use Rattle.hy_bound.specs.declared.Txn.{Txn}
use Rattle.hy_service.proofs.opening.no_programs.Given as goal

-- the scripts so far, which are empty
abbrev pub invariant-loop : goal.invariant-loop
invariant-loop l = l.programs ≡ replicate l.counter []
