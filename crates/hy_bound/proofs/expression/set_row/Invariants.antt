use Rattle.std.proofs.Common.{◌≡◌, drop, Some}
use Rattle.hy_bound.specs.Assignment.{assigned, assigned_to}
use Rattle.hy_bound.proofs.expression.set_row.Given as goal

-- the assignments that are left complete the row
abbrev pub invariant-loop-set : goal.invariant-loop-set
invariant-loop-set l = assigned_to (drop l.set-index l.set-items) l.row (Some l.new.items) ≡ assigned l.set-items l.row
