use Rattle.std.proofs.Common.{◌≡◌, ◌-◌, drop, length}
use Rattle.hy_meaning.specs.Totals.{values_of}
use Rattle.hy_alone.proofs.groups.values.Given as goal

-- the values of the rows behind
abbrev pub invariant-loop-passed : goal.invariant-loop-passed
invariant-loop-passed l = l.found ≡ values_of l.column (drop (length l.rows - l.passed) l.rows)
