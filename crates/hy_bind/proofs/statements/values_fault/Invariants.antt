use Rattle.std.proofs.Common.{◌≡◌, drop}
use Rattle.hy_bind.specs.Refusals.{first_of}
use Rattle.hy_bind.specs.Statements.{values_fault}
use Rattle.hy_bind.proofs.statements.values_fault.Given as goal

-- what is left completes the refusal
abbrev pub invariant-loop-i : goal.invariant-loop-i
invariant-loop-i l = first_of l.fault (values_fault l.script (drop l.i l.columns) (drop l.i l.values)) ≡ values_fault l.script l.columns l.values
