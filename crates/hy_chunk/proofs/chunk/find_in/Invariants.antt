use Rattle.std.proofs.Common.{◌≡◌, length}
use Rattle.hy_bound.specs.Predicate.{truth_at}
use Rattle.hy_plan.specs.Reads.{key_is_value}
use Rattle.hy_chunk.proofs.Lookups.{NoneOf}
use Rattle.hy_chunk.proofs.chunk.find_in.Given as goal

-- none of the positions so far has a row with the key
abbrev pub invariant-loop-i : goal.invariant-loop-i
invariant-loop-i l = record {
  width : length l.seen.row ≡ length l.positions.kinds;
  none : NoneOf (truth_at (key_is_value l.column l.value)) l.viewer l.positions.places l.found l.i;
}
