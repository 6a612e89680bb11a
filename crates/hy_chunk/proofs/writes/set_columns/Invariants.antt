use Rattle.std.proofs.Common.{◌≡◌, drop, length, Some}
use Rattle.hy_bound.specs.Assignment.{assigned, assigned_to}
use Rattle.hy_chunk.proofs.writes.set_columns.Given as goal

-- the columns so far are set
abbrev pub invariant-loop-set : goal.invariant-loop-set
invariant-loop-set l = record {
  rest : assigned_to (drop l.set-index l.sets) l.row (Some l.next) ≡ assigned l.sets l.row;
  size : length l.next ≡ length l.row;
}
