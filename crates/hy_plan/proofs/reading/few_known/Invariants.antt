use Rattle.std.proofs.Common.{◌≡◌, ◌≤◌, drop, length}
use Rattle.hy_plan.specs.Reads.{known_values_of, most_keys}
use Rattle.hy_plan.proofs.reading.few_known.Given as goal

-- the known values from one on, which are few
abbrev pub invariant-loop-left : goal.invariant-loop-left
invariant-loop-left l = record {
  within : l.left ≤ length l.values;
  those : l.known ≡ known_values_of (drop l.left l.values);
  few : length l.known ≤ most_keys;
}

abbrev pub decreases-loop-left : goal.decreases-loop-left
decreases-loop-left l = l.left
