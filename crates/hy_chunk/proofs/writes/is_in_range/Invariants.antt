use Rattle.std.proofs.Common.{◌≡◌, drop, Some}
use Rattle.std.specs.Prelude.{is_some}
use Rattle.hy_bound.specs.Assignment.{assigned, assigned_to}
use Rattle.hy_chunk.proofs.writes.is_in_range.Given as goal

-- the values so far are in range
abbrev pub invariant-loop-set : goal.invariant-loop-set
invariant-loop-set l = is_some (assigned_to (drop l.set-index l.sets) l.row (Some l.row)) ≡ is_some (assigned l.sets l.row)
